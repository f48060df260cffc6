-- Patterns as bytes, `bytes_of`: the pattern at a place is the one that was written there, and another at its place changes no other byte.
use mathlib.Core.List.{List, [], ◌∷◌, ◌++◌, append_assoc, map}
use mathlib.Core.Path.{◌≡◌, refl, sym, ap, ap₂, subst, ◌∙◌}
use Prim.Native.Nat.{ℕ, zero, suc, ◌+◌, ◌*◌, ◌^◌, ◌≤◌, ◌<◌}
use native.Mathlib.Omega.{arith}
use native.Mathlib.Nat.{not-suc-le-zero, le_of_suc-le-suc, zero-mul, mod-eq_of_lt}
use lib.ListN.{length, get_or, take, drop, set, length-append, length-map, drop_of_length-le}
use lib.Seq.{take-append-add, drop-append-add, drop_at, drop-cons}
use Rattle.bytes_le.specs.Bytes.{to_le, pattern_at}
use Rattle.bytes_le.proofs.Sums.{length-to_le}
use Rattle.bytes_le.proofs.Places.{first_place, next_place}
use Rattle.cast_spec.specs.Element.{Entry}
use Rattle.cast_spec.specs.Chunk.{entries_from}
use Rattle.typed.specs.Typed.{bytes_of}

-- the pattern of the element at a place
pub mapped_at : {X : Type 0} (bits : X → ℕ) (xs : List X) (i : ℕ) (d : X) → i < length xs → bits (get_or xs i d) ≡ get_or (map bits xs) i 0
mapped_at bits [] i d h = absurd (not-suc-le-zero h)
mapped_at bits (x ∷ xs) zero d h = refl
mapped_at bits (x ∷ xs) (suc i) d h = mapped_at bits xs i d (le_of_suc-le-suc h)

pub map_set : {X : Type 0} (f : X → ℕ) (xs : List X) (i : ℕ) (y : X) → map f (set xs i y) ≡ set (map f xs) i (f y)
map_set f [] i y = refl
map_set f (x ∷ xs) zero y = refl
map_set f (x ∷ xs) (suc i) y = ap (λ (l : List ℕ). f x ∷ l) (map_set f xs i y)

-- what holds of each pattern holds of each element of a list of them
pub mapped_below : {X : Type 0} (f : X → ℕ) (m : ℕ) → ((x : X) → f x < m) → (xs : List X) (i : ℕ) → i < length (map f xs) → get_or (map f xs) i 0 < m
mapped_below f m h [] i l = absurd (not-suc-le-zero l)
mapped_below f m h (x ∷ xs) zero l = h x
mapped_below f m h (x ∷ xs) (suc i) l = mapped_below f m h xs i (le_of_suc-le-suc l)

pub entry_below : {X : Type 0} (f : X → Entry) (g : Entry → ℕ) (m : ℕ) → ((x : X) → g (f x) < m) → (none : Entry) (xs : List X) (i : ℕ) → i < length (map f xs) → g (get_or (map f xs) i none) < m
entry_below f g m h none [] i l = absurd (not-suc-le-zero l)
entry_below f g m h none (x ∷ xs) zero l = h x
entry_below f g m h none (x ∷ xs) (suc i) l = entry_below f g m h none xs i (le_of_suc-le-suc l)

pub some_element : {X : Type 0} (f : X → ℕ) (xs : List X) (i : ℕ) → i < length (map f xs) → (x : X) × (f x ≡ get_or (map f xs) i 0)
some_element f [] i l = absurd (not-suc-le-zero l)
some_element f (x ∷ xs) zero l = (x, refl)
some_element f (x ∷ xs) (suc i) l = some_element f xs i (le_of_suc-le-suc l)

module _ (w : ℕ) where
  pub length_bytes : (ps : List ℕ) → length (bytes_of w ps) ≡ length ps * w
  length_bytes [] = sym (zero-mul w)
  length_bytes (p ∷ ps) = length-append (to_le w p) (bytes_of w ps) ∙ ap₂ (λ (a b : ℕ). a + b) (length-to_le w p) (length_bytes ps) ∙ omega arith

  pub pattern_at_lem : (ps : List ℕ) (i : ℕ) → i < length ps → get_or ps i 0 < 256 ^ w → pattern_at w (bytes_of w ps) i ≡ get_or ps i 0
  pattern_at_lem [] i h f = absurd (not-suc-le-zero h)
  pattern_at_lem (p ∷ ps) zero h f = first_place w p (bytes_of w ps) ∙ mod-eq_of_lt f
  pattern_at_lem (p ∷ ps) (suc i) h f = next_place w p i (bytes_of w ps) ∙ pattern_at_lem ps i (le_of_suc-le-suc h) f

  pub set_bytes : (ps : List ℕ) (i b : ℕ) → i < length ps → bytes_of w (set ps i b) ≡ take (i * w) (bytes_of w ps) ++ (to_le w b ++ drop w (drop (i * w) (bytes_of w ps)))
  set_bytes [] i b h = absurd (not-suc-le-zero h)
  set_bytes (p ∷ ps) zero b h =
      ap (λ (l : List ℕ). to_le w b ++ l) (sym (drop_at (to_le w p) (bytes_of w ps) w (length-to_le w p)))
      ∙ ap (λ (z : ℕ). take z (bytes_of w (p ∷ ps)) ++ (to_le w b ++ drop w (drop z (bytes_of w (p ∷ ps))))) (sym (zero-mul w))
  set_bytes (p ∷ ps) (suc i) b h =
      let e : suc i * w ≡ length (to_le w p) + i * w = shift i (length-to_le w p) in
      ap (λ (l : List ℕ). to_le w p ++ l) (set_bytes ps i b (le_of_suc-le-suc h))
      ∙ sym (append_assoc (to_le w p) (take (i * w) (bytes_of w ps)) (to_le w b ++ drop w (drop (i * w) (bytes_of w ps))))
      ∙ ap₂ (λ (x y : List ℕ). x ++ (to_le w b ++ drop w y))
      (sym (ap (λ (z : ℕ). take z (bytes_of w (p ∷ ps))) e ∙ take-append-add (to_le w p) (bytes_of w ps) (i * w)))
      (sym (ap (λ (z : ℕ). drop z (bytes_of w (p ∷ ps))) e ∙ drop-append-add (to_le w p) (bytes_of w ps) (i * w)))
    where
      shift : (i : ℕ) {l : ℕ} → l ≡ w → suc i * w ≡ l + i * w
      shift i e = omega arith

-- ---- entries as the bytes of their keys and of their targets
module _ (sw dw : ℕ) (es : List Entry) (none : Entry) (key_fits : (j : ℕ) → j < length es → (get_or es j none).key < 256 ^ sw) (target_fits : (j : ℕ) → j < length es → (get_or es j none).target < 256 ^ dw) where
  abbrev keys : List ℕ
  keys = bytes_of sw (map (λ (e : Entry). e.key) es)

  abbrev targets : List ℕ
  targets = bytes_of dw (map (λ (e : Entry). e.target) es)

  part : (w : ℕ) (g : Entry → ℕ) (j : ℕ) → j < length es → g (get_or es j none) < 256 ^ w → pattern_at w (bytes_of w (map g es)) j ≡ g (get_or es j none)
  part w g j h f =
      let e : get_or (map g es) j 0 ≡ g (get_or es j none) = sym (mapped_at g es j none h) in
      pattern_at_lem w (map g es) j (subst (λ (n : ℕ). j < n) (sym (length-map es g)) h) (subst (λ (z : ℕ). z < 256 ^ w) (sym e) f) ∙ e

  from_on : (n j : ℕ) → j + n ≡ length es → entries_from sw dw keys targets j n ≡ drop j es
  from_on zero j e = let h : length es ≤ j = omega arith in sym (drop_of_length-le es h)
  from_on (suc n) j e =
      let h : j < length es = omega arith in
      ap₂ {C = List Entry} (λ (x : Entry) (l : List Entry). x ∷ l)
      (ap₂ {C = Entry} (λ (a b : ℕ). record { key = a; target = b }) (part sw (λ (x : Entry). x.key) j h (key_fits j h)) (part dw (λ (x : Entry). x.target) j h (target_fits j h)))
      (from_on n (suc j) (omega arith))
      ∙ sym (drop-cons es j none h)

  pub entries_back : entries_from sw dw keys targets 0 (length es) ≡ es
  entries_back = from_on (length es) 0 (omega arith)

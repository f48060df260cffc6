-- A pattern has one row of bytes: bytes that sum to the same number are the same, and so are two chunks of bytes whose elements have the same patterns.
use mathlib.Core.Path.{◌≡◌, refl, sym, ap, ap₂, subst, ◌∙◌}
use mathlib.Core.List.{List, [], ◌∷◌, ◌++◌}
use Prim.Native.Nat.{ℕ, zero, suc, ◌+◌, ◌-◌, ◌*◌, ◌≤◌, ◌<◌}
use native.Mathlib.Nat.{zero-mul, add-mul-mod_self_left, add-mul-div_left, mod-eq_of_lt, div-eq_of_lt, zero-add, zero-lt-suc}
use native.Mathlib.Omega.{arith}
use lib.ListN.{length, take, drop, length-drop, take-append-drop}
use lib.Seq.{drop-drop, length-take-le}
use Rattle.bytes_le.specs.Bytes.{from_le, to_le, pattern_at}
use Rattle.bytes_le.proofs.Sums.{from_le_cons}

-- every number of a list is a byte
abbrev pub AreBytes : List ℕ → Type 0
AreBytes [] = Unit {0}
AreBytes (x ∷ xs) = (x < 256) × AreBytes xs

pub to_le-from_le : (xs : List ℕ) → AreBytes xs → to_le (length xs) (from_le xs) ≡ xs
to_le-from_le [] h = refl
to_le-from_le (x ∷ xs) h =
    ap (to_le (suc (length xs))) (from_le_cons x xs)
    ∙ ap₂ (λ (b : ℕ) (bs : List ℕ). b ∷ bs)
    (add-mul-mod_self_left x 256 (from_le xs) ∙ mod-eq_of_lt h.0)
    (ap (to_le (length xs)) (add-mul-div_left x (from_le xs) (zero-lt-suc 255) ∙ ap (λ (z : ℕ). z + from_le xs) (div-eq_of_lt h.0) ∙ zero-add (from_le xs)) ∙ to_le-from_le xs h.1)

pub one_row : (xs ys : List ℕ) → AreBytes xs → AreBytes ys → length xs ≡ length ys → from_le xs ≡ from_le ys → xs ≡ ys
one_row xs ys h g e f = sym (to_le-from_le xs h) ∙ ap₂ to_le e f ∙ to_le-from_le ys g

pub append_bytes : (xs ys : List ℕ) → AreBytes xs → AreBytes ys → AreBytes (xs ++ ys)
append_bytes [] ys h g = g
append_bytes (x ∷ xs) ys h g = (h.0, append_bytes xs ys h.1 g)

pub take_bytes : (n : ℕ) (xs : List ℕ) → AreBytes xs → AreBytes (take n xs)
take_bytes zero xs h = tt
take_bytes (suc n) [] h = tt
take_bytes (suc n) (x ∷ xs) h = (h.0, take_bytes n xs h.1)

pub drop_bytes : (n : ℕ) (xs : List ℕ) → AreBytes xs → AreBytes (drop n xs)
drop_bytes zero xs h = h
drop_bytes (suc n) [] h = tt
drop_bytes (suc n) (x ∷ xs) h = drop_bytes n xs h.1

-- the first k elements of w bytes have the same patterns, and behind them the chunks are the same
pub one_chunk : (w k : ℕ) (c d : List ℕ) → AreBytes c → AreBytes d → length c ≡ length d → k * w ≤ length c → ((i : ℕ) → i < k → pattern_at w c i ≡ pattern_at w d i) → drop (k * w) c ≡ drop (k * w) d → c ≡ d
one_chunk w zero c d h g e room same rest = ap (λ (z : ℕ). drop z c) (sym (zero-mul w)) ∙ rest ∙ ap (λ (z : ℕ). drop z d) (zero-mul w)
one_chunk w (suc k) c d h g e room same rest =
    sym (take-append-drop w c) ∙ ap₂ (λ (x y : List ℕ). x ++ y) first
    (one_chunk w k (drop w c) (drop w d) (drop_bytes w c h) (drop_bytes w d g) (length-drop w c ∙ ap (λ (z : ℕ). z - w) e ∙ sym (length-drop w d)) (subst (λ (z : ℕ). k * w ≤ z) (sym (length-drop w c)) (omega arith))
    (λ i l. sym (onward c i) ∙ same (suc i) (omega arith) ∙ onward d i) (shorter c ∙ rest ∙ sym (shorter d)))
    ∙ take-append-drop w d
  where
    from_start : (s : List ℕ) → pattern_at w s 0 ≡ from_le (take w s)
    from_start s = ap (λ (z : ℕ). from_le (take w (drop z s))) (zero-mul w)

    onward : (s : List ℕ) (i : ℕ) → pattern_at w s (suc i) ≡ pattern_at w (drop w s) i
    onward s i = ap (λ (z : List ℕ). from_le (take w z)) (ap (λ (z : ℕ). drop z s) (turn w i) ∙ sym (drop-drop (i * w) w s))
      where
        turn : (w i : ℕ) → suc i * w ≡ w + i * w
        turn w i = omega arith

    shorter : (s : List ℕ) → drop (k * w) (drop w s) ≡ drop (suc k * w) s
    shorter s = drop-drop (k * w) w s ∙ ap (λ (z : ℕ). drop z s) (turn w k)
      where
        turn : (w k : ℕ) → w + k * w ≡ suc k * w
        turn w k = omega arith

    fits : w ≤ length c
    fits = omega arith

    first : take w c ≡ take w d
    first = one_row (take w c) (take w d) (take_bytes w c h) (take_bytes w d g) (length-take-le w c fits ∙ sym (length-take-le w d (subst (λ (z : ℕ). w ≤ z) e fits))) (sym (from_start c) ∙ same 0 (omega arith) ∙ from_start d)

-- Bytes written one after the other are one writing.
use mathlib.Core.Path.{◌≡◌, refl, sym, ap, subst, ◌∙◌}
use mathlib.Core.List.{List, [], ◌∷◌, ◌++◌, append_assoc}
use Prim.Native.Nat.{ℕ, ◌+◌, ◌≤◌, ◌<◌}
use native.Mathlib.Nat.{add_assoc, add-zero}
use native.Mathlib.Numerals.{add-one}
use native.Mathlib.Omega.{arith}
use lib.ListN.{length, set, take, drop, length-append, length-drop, take-append-drop}
use lib.Seq.{take_at, drop_at, drop-drop, length-take-le, set_split}
use Rattle.text.specs.Wrote.{Wrote}

pub wrote_none : (d : List ℕ) (a : ℕ) → a ≤ length d → Wrote d a [] a d
wrote_none d a h = record { next = sym (add-zero a); within = h; bytes = sym (take-append-drop a d) }

pub wrote_one : (d : List ℕ) (a b : ℕ) → a < length d → Wrote d a (b ∷ []) (a + 1) (set d a b)
wrote_one d a b h = record { next = refl; within = omega arith; bytes = set_split d a b h ∙ ap (λ (z : ℕ). take a d ++ b ∷ drop z d) (sym (add-one a)) }

module _ {d : List ℕ} {a : ℕ} {xs : List ℕ} {r : ℕ} {d' : List ℕ} (w : Wrote d a xs r d') where
  front_length : length (take a d ++ xs) ≡ r
  front_length = length-append (take a d) xs ∙ ap (λ (z : ℕ). z + length xs) (length-take-le a d (omega (arith, w.next, w.within))) ∙ sym w.next

  regrouped : d' ≡ (take a d ++ xs) ++ drop r d
  regrouped = w.bytes ∙ sym (append_assoc (take a d) xs (drop r d))

  pub wrote_length : length d' ≡ length d
  wrote_length = ap length regrouped ∙ length-append (take a d ++ xs) (drop r d) ∙ ap (λ (z : ℕ). z + length (drop r d)) front_length ∙ omega (arith, length-drop r d, w.within)

  front : take r d' ≡ take a d ++ xs
  front = ap (take r) regrouped ∙ take_at (take a d ++ xs) (drop r d) r front_length

  back : drop r d' ≡ drop r d
  back = ap (drop r) regrouped ∙ drop_at (take a d ++ xs) (drop r d) r front_length

  pub wrote_then : {ys : List ℕ} {q : ℕ} {d'' : List ℕ} → Wrote d' r ys q d'' → Wrote d a (xs ++ ys) q d''
  wrote_then {ys} {q} {d''} v = record {
    next = v.next ∙ ap (λ (z : ℕ). z + length ys) w.next ∙ add_assoc a (length xs) (length ys) ∙ ap (λ (z : ℕ). a + z) (sym (length-append xs ys));
    within = subst (λ (z : ℕ). q ≤ z) wrote_length v.within;
    bytes = v.bytes
        ∙ ap (λ (z : List ℕ). z ++ (ys ++ drop q d')) front
        ∙ append_assoc (take a d) xs (ys ++ drop q d')
        ∙ ap (λ (z : List ℕ). take a d ++ z) (sym (append_assoc xs ys (drop q d')))
        ∙ ap (λ (z : List ℕ). take a d ++ ((xs ++ ys) ++ z)) past;
  }
    where
      past : drop q d' ≡ drop q d
      past = ap (λ (z : ℕ). drop z d') v.next ∙ sym (drop-drop (length ys) r d') ∙ ap (drop (length ys)) back ∙ drop-drop (length ys) r d ∙ ap (λ (z : ℕ). drop z d) (sym v.next)

pub wrote_as : {d : List ℕ} {a : ℕ} {xs ys : List ℕ} {r : ℕ} {d' : List ℕ} → xs ≡ ys → Wrote d a xs r d' → Wrote d a ys r d'
wrote_as {d} {a} {xs} {ys} {r} {d'} e w = subst (λ (z : List ℕ). Wrote d a z r d') e w

-- The distance of two rows: 0 exactly where they are one, a sum over parts, and at most as many as there are places.
use mathlib.Core.Path.{◌≡◌, refl, sym, ap, ap₂, ◌∙◌}
use mathlib.Core.Bool.{Bool, true, false, cond}
use mathlib.Core.List.{List, [], ◌∷◌, ◌++◌}
use Prim.Native.Nat.{ℕ, suc, min, ◌+◌, ◌≤◌}
use native.Mathlib.Nat.{add-zero, le_of_eq, le_trans}
use native.Mathlib.Omega.{arith}
use lib.Dec.{eqb}
use lib.ListN.{length, take, drop, length-take, take-append-drop}
use borrow.Author.Tests.{eq-eqb, eqb-true}
use Rattle.hamming.specs.Distance.{distance}

-- ---- 0 exactly where the rows are one
pub same_0 : (xs : List ℕ) → distance xs xs ≡ 0
same_0 [] = refl
same_0 (x ∷ xs) = ap (λ (b : Bool). cond b (distance xs xs) (suc (distance xs xs))) (eq-eqb x x refl) ∙ same_0 xs

pub only_same_0 : (xs ys : List ℕ) → distance xs ys ≡ 0 → xs ≡ ys
only_same_0 [] [] e = refl
only_same_0 [] (y ∷ ys) e = absurd (omega arith)
only_same_0 (x ∷ xs) [] e = absurd (omega arith)
only_same_0 (x ∷ xs) (y ∷ ys) e = go (eqb x y) refl (only_same_0 xs ys) e
  where
    go : (b : Bool) → eqb x y ≡ b → (distance xs ys ≡ 0 → xs ≡ ys) → cond b (distance xs ys) (suc (distance xs ys)) ≡ 0 → x ∷ xs ≡ y ∷ ys
    go true f rest e = ap₂ (λ (z : ℕ) (zs : List ℕ). z ∷ zs) (eqb-true x y f) (rest e)
    go false f rest e = absurd (omega arith)

-- ---- over parts of one length
pub over_parts : (xs ys us vs : List ℕ) → length xs ≡ length ys → distance (xs ++ us) (ys ++ vs) ≡ distance xs ys + distance us vs
over_parts [] [] us vs e = omega arith
over_parts [] (y ∷ ys) us vs e = absurd (omega arith)
over_parts (x ∷ xs) [] us vs e = absurd (omega arith)
over_parts (x ∷ xs) (y ∷ ys) us vs e = go (eqb x y) (over_parts xs ys us vs (omega arith))
  where
    go : (b : Bool) → distance (xs ++ us) (ys ++ vs) ≡ distance xs ys + distance us vs
        → cond b (distance (xs ++ us) (ys ++ vs)) (suc (distance (xs ++ us) (ys ++ vs))) ≡ cond b (distance xs ys) (suc (distance xs ys)) + distance us vs
    go true f = f
    go false f = omega arith

-- ---- at most as many as there are places
pub at_most_length : (xs ys : List ℕ) → length xs ≡ length ys → distance xs ys ≤ length xs
at_most_length [] [] e = omega arith
at_most_length [] (y ∷ ys) e = absurd (omega arith)
at_most_length (x ∷ xs) [] e = absurd (omega arith)
at_most_length (x ∷ xs) (y ∷ ys) e = go (eqb x y) (at_most_length xs ys (omega arith))
  where
    go : (b : Bool) → distance xs ys ≤ length xs → cond b (distance xs ys) (suc (distance xs ys)) ≤ suc (length xs)
    go true f = omega arith
    go false f = omega arith

-- ---- rows that are one from the place k on
pub at_most_front : (k : ℕ) (xs ys : List ℕ) → length xs ≡ length ys → drop k xs ≡ drop k ys → distance xs ys ≤ k
at_most_front k xs ys same e = le_trans (le_of_eq split) (le_trans (at_most_length (take k xs) (take k ys) fronts) short)
  where
    fronts : length (take k xs) ≡ length (take k ys)
    fronts = length-take k xs ∙ ap (min k) same ∙ sym (length-take k ys)

    split : distance xs ys ≡ distance (take k xs) (take k ys)
    split = ap₂ distance (sym (take-append-drop k xs)) (sym (take-append-drop k ys))
        ∙ over_parts (take k xs) (take k ys) (drop k xs) (drop k ys) fronts
        ∙ ap (λ (n : ℕ). distance (take k xs) (take k ys) + n) (ap (λ (zs : List ℕ). distance zs (drop k ys)) e ∙ same_0 (drop k ys)) ∙ add-zero _

    short : length (take k xs) ≤ k
    short = simp length-take (omega arith)

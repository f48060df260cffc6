-- A refusal names a position or leaves all the destination as it was, and none does both; of the numbers up to 8, 1 to 4 and 8 leave all.
use mathlib.Core.Path.{◌≡◌, sym, subst}
use mathlib.Core.Logic.{◌⊎◌, inl, inr}
use mathlib.Core.Bool.{Bool, true, false, ◌&&◌, not}
use Prim.Native.Nat.{ℕ, ◌≤◌, ◌<◌}
use native.Mathlib.Omega.{arith}
use lib.Dec.{T, T_not, ltb, ltb→lt}
use borrow.Author.Tests.{lt-ltb, le-leb}
use Rattle.grid.proofs.Neighbours.{cut}
use Rattle.grid.proofs.Tests.{both}
use Rattle.answers.specs.Answer.{names_position, leaves_all}

5_to_7_name : (n : ℕ) → 5 ≤ n → n ≤ 7 → T (names_position n)
5_to_7_name n a b = let e : names_position n ≡ true = simp (le-leb 5 n a, le-leb n 7 b) in subst T (sym e) tt

pub never_both : (n : ℕ) → T (leaves_all n) → T (names_position n) → ⊥
never_both n l = T_not (names_position n) (both (ltb 0 n) (not (names_position n)) l).1

pub names_or_leaves : (n : ℕ) → 0 < n → T (names_position n) ⊎ T (leaves_all n)
names_or_leaves n h = go (names_position n)
  where
    go : (b : Bool) → T b ⊎ T (ltb 0 n && not b)
    go true = inl tt
    go false = inr (subst (λ (c : Bool). T (c && true)) (sym (lt-ltb 0 n h)) tt)

pub leaves_1_to_4_and_8 : (n : ℕ) → n ≤ 8 → T (leaves_all n) → ((1 ≤ n) × (n ≤ 4)) ⊎ (n ≡ 8)
leaves_1_to_4_and_8 n few h = cut n 5
    (λ (l : n < 5). inl (ltb→lt 0 n (both (ltb 0 n) (not (names_position n)) h).0, omega arith))
    (λ (l : 5 ≤ n). cut n 8 (λ (m : n < 8). absurd (never_both n h (5_to_7_name n l (omega arith)))) (λ (m : 8 ≤ n). inr (omega arith)))

-- A pick past the largest finite number, (2^p - 1) × 2^k, is one of magnitude 2^(p + k) or more.
use mathlib.Core.Path.{◌≡◌, ap, sym, ◌∙◌}
use mathlib.Core.Logic.{⊎_elim}
use Prim.Native.Nat.{ℕ, suc, ◌+◌, ◌-◌, ◌*◌, ◌^◌, ◌≤◌, ◌<◌}
use native.Mathlib.Omega.{arith}
use lib.Pow.{pow_pos, pow-add, pow-lt, suc_ones}
use Rattle.grid.specs.Grid.{float, OnMag}
use Rattle.grid.proofs.Neighbours.{gap_float}

-- the largest finite number and one spacing more
largest_next : (p k : ℕ) → suc (2 ^ p - 1) * 2 ^ k ≡ 2 ^ (p + k)
largest_next p k = ap (λ (x : ℕ). x * 2 ^ k) (suc_ones p) ∙ sym (pow-add 2 p k)

pub past_largest : (p s k z : ℕ) → 2 ≤ p → s ≤ k → OnMag (float p s) z → (2 ^ p - 1) * 2 ^ k < z → 2 ^ (p + k) ≤ z
past_largest p s k z two sk on h = ⊎_elim
    (λ (l : z ≤ (2 ^ p - 1) * 2 ^ k). absurd (omega arith))
    (λ (l : suc (2 ^ p - 1) * 2 ^ k ≤ z). omega (arith, largest_next p k))
    (gap_float p s k (2 ^ p - 1) two sk (omega arith) (λ _. top p two) z on)
  where
    top : (p : ℕ) → 2 ≤ p → 2 ^ (p - 1) ≤ 2 ^ p - 1
    top p h = omega (arith, pow_pos p, pow-lt {i = p - 1} {j = p} (omega arith))

pub reaches_past : (p k z : ℕ) → 2 ^ (p + k) ≤ z → (2 ^ p - 1) * 2 ^ k < z
reaches_past p k z h = omega (arith, largest_next p k, pow_pos k)

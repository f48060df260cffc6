-- The bits of the pick of m × 2^e on a float's grid: the exponent field of the spacing there, and the kept part, carry included.
use mathlib.Core.Path.{◌≡◌, sym, ap, subst, ◌∙◌}
use Prim.Native.Nat.{ℕ, ◌+◌, ◌-◌, ◌*◌, ◌/◌, ◌%◌, ◌^◌, ◌≤◌, ◌<◌, max}
use native.Mathlib.Nat.{le_trans, mul-div-mul_right, le-max_left, sub-add_cancel}
use native.Mathlib.Omega.{arith}
use lib.Ieee.{size}
use lib.Pow.{pow_pos}
use Rattle.grid.specs.declared.RoundingMode.{RoundingMode}
use Rattle.grid.specs.Grid.{float}
use Rattle.grid.specs.Round.{step, pick_mag}
use Rattle.patterns.specs.Float.{bits_mag}
use Rattle.grid.proofs.Neighbours.{pow_split, kept_lt, kept_full}
use Rattle.grid.proofs.Kept.{size_shift, pick_shift}
use Rattle.patterns.proofs.Encode.{encode}
use Rattle.grid.proofs.Step.{step_ge, step_le}

-- ---- the kept bits
module _ (p s m e : ℕ) (two : 2 ≤ p) (some : 0 < m) (over : e ≤ max s (size m + e - p)) where
  same : m * 2 ^ e / 2 ^ max s (size (m * 2 ^ e) - p) ≡ m / 2 ^ (max s (size m + e - p) - e)
  same =
      let k = max s (size m + e - p) in
      ap (λ (z : ℕ). m * 2 ^ e / 2 ^ max s (z - p)) (size_shift m e some)
      ∙ ap (λ (z : ℕ). m * 2 ^ e / z) (pow_split k e over)
      ∙ mul-div-mul_right m (2 ^ (k - e)) (pow_pos e)

  pub few : m / 2 ^ (max s (size m + e - p) - e) < 2 ^ p
  few = subst (λ (z : ℕ). z < 2 ^ p) same (kept_lt p s (m * 2 ^ e))

  pub many : s < max s (size m + e - p) → 2 ^ (p - 1) ≤ m / 2 ^ (max s (size m + e - p) - e)
  many h = subst (λ (z : ℕ). 2 ^ (p - 1) ≤ z) same (kept_full p s (m * 2 ^ e) two (subst (λ (z : ℕ). s < max s (z - p)) (sym (size_shift m e some)) h))

  pub float_law : (r : RoundingMode) → bits_mag p s ((max s (size m + e - p) - s) * 2 ^ (p - 1) + step r (m / 2 ^ (max s (size m + e - p) - e)) (m % 2 ^ (max s (size m + e - p) - e)) (2 ^ (max s (size m + e - p) - e))) ≡ pick_mag (float p s) r (m * 2 ^ e)
  float_law r =
      let k = max s (size m + e - p) in
      let j = k - e in
      let n = step r (m / 2 ^ j) (m % 2 ^ j) (2 ^ j) in
      encode p s (k - s) n (omega arith) (le_trans (step_le r (m / 2 ^ j) (m % 2 ^ j) (2 ^ j)) few) (λ (h : 0 < k - s). le_trans (many (omega arith)) (step_ge r (m / 2 ^ j) (m % 2 ^ j) (2 ^ j)))
      ∙ ap (λ (z : ℕ). n * 2 ^ z) (sub-add_cancel (le-max_left s (size m + e - p)))
      ∙ sym (pick_shift (float p s) r m e some over)

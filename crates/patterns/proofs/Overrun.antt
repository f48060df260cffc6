-- "Float range is overrun when the pick of the endless grid has magnitude 2^128 or more (f32)": a grid number of a float kind is past its finite
-- range exactly when its magnitude is 2^(emax + 1) or more.
use mathlib.Core.Path.{◌≡◌, sym, ap, subst, ◌∙◌}
use mathlib.Core.Logic.{◌↔◌}
use Prim.Native.Nat.{ℕ, suc, ◌+◌, ◌-◌, ◌*◌, ◌%◌, ◌^◌, ◌≤◌, ◌<◌}
use native.Mathlib.Nat.{suc-mul}
use native.Mathlib.Omega.{arith}
use lib.Dec.{lit≤}
use lib.IntN.{ℤ, nat_abs}
use lib.Pow.{pow_pos, pow_mono, high, low}
use Rattle.grid.specs.Grid.{float, OnGrid}
use Rattle.grid.proofs.Neighbours.{cut, pow_twice_pred}
use Rattle.grid.proofs.Overrun.{past_largest, reaches_past}
use Rattle.patterns.specs.Float.{field_mag, bits_mag, inf_bits}
use Rattle.patterns.specs.Kind.{binary, f16, f32, f64, InRange}
use Rattle.patterns.proofs.AnyKind.{abs_in_range, largest_bits}

module _ (p w s : ℕ) (two : 2 ≤ p) (fields : 2 ≤ w) where
  -- the exponent of the largest finite numbers' spacing
  abbrev k : ℕ
  k = 2 ^ w - 3 + s

  four : 4 ≤ 2 ^ w
  four = pow_mono {i = 2} {j = w} fields

  -- the largest field under a fraction of ones
  before_infinity : inf_bits p w - 1 ≡ suc (2 ^ w - 3) * 2 ^ (p - 1) + (2 ^ (p - 1) - 1)
  before_infinity = omega (arith, pow_pos (p - 1), ap (λ (z : ℕ). z * 2 ^ (p - 1)) ones, suc-mul (suc (2 ^ w - 3)) (2 ^ (p - 1)))
    where
      ones : 2 ^ w - 1 ≡ suc (suc (2 ^ w - 3))
      ones = omega (arith, four)

  largest : bits_mag p s (inf_bits p w - 1) ≡ (2 ^ p - 1) * 2 ^ k
  unfolding bits_mag field_mag
  largest =
      let below : 2 ^ (p - 1) - 1 < 2 ^ (p - 1) = omega (arith, pow_pos (p - 1)) in
      ap (bits_mag p s) before_infinity
      ∙ ap (λ (x : ℕ). field_mag p s x ((suc (2 ^ w - 3) * 2 ^ (p - 1) + (2 ^ (p - 1) - 1)) % 2 ^ (p - 1))) (high (suc (2 ^ w - 3)) (p - 1) below)
      ∙ ap (λ (t : ℕ). (2 ^ (p - 1) + t) * 2 ^ (2 ^ w - 3 + s)) (low (suc (2 ^ w - 3)) (p - 1) below)
      ∙ ap (λ (m : ℕ). m * 2 ^ k) (all_ones p two)
    where
      all_ones : (p : ℕ) → 2 ≤ p → 2 ^ (p - 1) + (2 ^ (p - 1) - 1) ≡ 2 ^ p - 1
      all_ones p h = omega (arith, pow_pos (p - 1), pow_twice_pred p (omega arith))

  pub overrun : (y : ℤ) → OnGrid (float p s) y → (InRange (binary p w s) y → ⊥) ↔ (2 ^ (p + k) ≤ nat_abs y)
  overrun y on = (
    λ out. cut ((2 ^ p - 1) * 2 ^ k) (nat_abs y) (λ h. past_largest p s k (nat_abs y) two (omega arith) on h) (λ h. absurd (out (abs_in_range p w s y (subst (λ (M : ℕ). nat_abs y ≤ M) (sym largest) h)))),
    λ h i. let l : nat_abs y ≤ (2 ^ p - 1) * 2 ^ k = subst (λ (M : ℕ). nat_abs y ≤ M) largest (largest_bits p w s y i) in omega (arith, reaches_past p k (nat_abs y) h),
  )

-- as multiples of 2^-1074: 2^16, 2^128 and 2^1024
pub overrun_f16 : (y : ℤ) → OnGrid (float 11 1050) y → (InRange f16 y → ⊥) ↔ (2 ^ (16 + 1074) ≤ nat_abs y)
overrun_f16 = overrun 11 5 1050 (lit≤ tt) (lit≤ tt)

pub overrun_f32 : (y : ℤ) → OnGrid (float 24 925) y → (InRange f32 y → ⊥) ↔ (2 ^ (128 + 1074) ≤ nat_abs y)
overrun_f32 = overrun 24 8 925 (lit≤ tt) (lit≤ tt)

pub overrun_f64 : (y : ℤ) → OnGrid (float 53 0) y → (InRange f64 y → ⊥) ↔ (2 ^ (1024 + 1074) ≤ nat_abs y)
overrun_f64 = overrun 53 11 0 (lit≤ tt) (lit≤ tt)

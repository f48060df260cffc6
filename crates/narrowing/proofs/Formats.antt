-- The top of a NaN's fraction, worked out by shifts.
use mathlib.Core.Path.{◌≡◌, sym, ap, ap₂, ◌∙◌}
use Prim.Native.Nat.{ℕ, ◌+◌, ◌-◌, ◌*◌, ◌/◌, ◌%◌, ◌^◌, ◌<◌}
use native.Mathlib.Nat.{mod-eq_of_lt, mul-div-mul_right}
use native.Mathlib.Omega.{arith}
use lib.Bits.{bit_and, and_mask}
use lib.Pow.{pow-add, pow_pos}
use Rattle.patterns.specs.Pattern.{quiet}
use Rattle.patterns.proofs.Shifts.{one_shifted}

-- a fraction of f64 moved down to p - 1 bits
top_of : (p t : ℕ) → 0 < p → p < 53 → t < 2 ^ 52 → t % 2 ^ 52 * 2 ^ (p - 1) / 2 ^ 52 ≡ t / 2 ^ (53 - p)
top_of p t some few small =
    ap₂ (λ (a b : ℕ). a * 2 ^ (p - 1) / b) (mod-eq_of_lt small) (ap (λ (z : ℕ). 2 ^ z) (places p some few) ∙ pow-add 2 (53 - p) (p - 1))
    ∙ mul-div-mul_right t (2 ^ (53 - p)) (pow_pos (p - 1))
  where
    places : (p : ℕ) → 0 < p → p < 53 → 52 ≡ 53 - p + (p - 1)
    places p some few = omega arith

module _ (p t : ℕ) (two : 1 < p) (few : p < 53) (small : t < 2 ^ 52) where
  masked : bit_and (t / 2 ^ (53 - p)) (1 * 2 ^ (p - 2) % 2 ^ 64 - 1) ≡ t / 2 ^ (53 - p) % 2 ^ (p - 2)
  masked = ap (λ (z : ℕ). bit_and (t / 2 ^ (53 - p)) (z - 1)) (one_shifted (p - 2) (omega arith)) ∙ and_mask (t / 2 ^ (53 - p)) (p - 2)

  pub quiet_shifted : 1 * 2 ^ (p - 2) % 2 ^ 64 + bit_and (t / 2 ^ (53 - p)) (1 * 2 ^ (p - 2) % 2 ^ 64 - 1) ≡ quiet 53 p t
  quiet_shifted = ap₂ ◌+◌ (one_shifted (p - 2) (omega arith)) (masked ∙ ap (λ (z : ℕ). z % 2 ^ (p - 2)) (sym (top_of p t (omega arith) few small)))

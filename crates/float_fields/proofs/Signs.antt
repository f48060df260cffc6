-- The sign's bit and the bits below it, added.
use mathlib.Core.Path.{◌≡◌, ap, ◌∙◌}
use mathlib.Core.Bool.{Bool, true, false, cond}
use Prim.Native.Nat.{ℕ, ◌+◌, ◌-◌, ◌^◌, ◌≤◌, ◌<◌}
use native.Mathlib.Omega.{arith}
use lib.Pow.{pow_mono}
use Rattle.grid.proofs.Neighbours.{pow_twice_pred}
use Rattle.patterns.specs.Pattern.{with_sign}

module _ (n : ℕ) (neg : Bool) (r x : ℕ) (is : r ≡ cond neg (2 ^ (n - 1)) 0) where
  pub signed_sum : r + x ≡ with_sign n neg x
  signed_sum = ap (λ (z : ℕ). z + x) is ∙ go neg
    where
      go : (neg : Bool) → cond neg (2 ^ (n - 1)) 0 + x ≡ with_sign n neg x
      go true = omega arith
      go false = omega arith

  pub signed_fits : 0 < n → n ≤ 64 → x < 2 ^ (n - 1) → r + x < 2 ^ 64
  signed_fits some most small = omega (arith, sign_le neg, is, pow_twice_pred n some, pow_mono {i = n} {j = 64} most)
    where
      sign_le : (neg : Bool) → cond neg (2 ^ (n - 1)) 0 ≤ 2 ^ (n - 1)
      sign_le true = omega arith
      sign_le false = omega arith

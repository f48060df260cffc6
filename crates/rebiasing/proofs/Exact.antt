-- A number of the narrower format, 0 or normal there, is rebiased with nothing dropped.
use mathlib.Core.Path.{◌≡◌, sym, ap, subst, ◌∙◌}
use mathlib.Core.Bool.{false}
use Prim.Native.Nat.{ℕ, ◌+◌, ◌-◌, ◌*◌, ◌/◌, ◌^◌, ◌≤◌, ◌<◌}
use native.Mathlib.Nat.{le-add_right, le_trans, mul-le-mul_right}
use native.Mathlib.Omega.{arith}
use borrow.Author.Tests.{ne_eqb}
use lib.Dec.{lit<, lit≤}
use lib.IntN.{nat_abs}
use Rattle.grid.specs.declared.RoundingMode.{RoundingMode}
use Rattle.grid.specs.declared.RoundingMode.TheVariants.{TowardsZero}
use Rattle.grid.specs.declared.Rounded.{Rounded}
use Rattle.grid.specs.Grid.{OnMag, float}
use Rattle.grid.specs.Round.{pick_mag}
use Rattle.grid.proofs.Neighbours.{cut, finer}
use Rattle.grid.proofs.Picked.{picked_pos}
use Rattle.patterns.specs.Float.{bits_mag}
use Rattle.patterns.specs.Pattern.{mag_bits}
use Rattle.patterns.proofs.Encode.{zero_bits}
use Rattle.patterns.proofs.Floats.{bits_again, mag_back}
use Rattle.scaled.specs.Scaled.{scaled_of}
use Rattle.scaled.proofs.Magnitudes.{scaled_bits, scaled_whole}
use Rattle.floats.specs.Form.{CanonicalClass}
use Rattle.floats.specs.declared.Class.TheVariants.{Finite}
use Rattle.narrowing.specs.Format.{Narrower}
use Rattle.narrowing.proofs.Magnitudes.{field_fits, normal_rounded}
use Rattle.rebiasing.specs.Rebiased.{Rebiasable, rebiased}

zero_mag : (p s : ℕ) → 2 ≤ p → mag_bits p s 0 ≡ 0
zero_mag p s two = ap (mag_bits p s) (sym (zero_bits p s two)) ∙ bits_again p 1 s two (lit< tt) 0

-- ---- a number of the narrower format, 0 or normal there: nothing is dropped
module _ (p s n : ℕ) (narrower : Narrower p s) (on : OnMag (float p s) n) (canonical : CanonicalClass (Finite (scaled_of n))) (normal : (n ≡ 0 → ⊥) → s - (53 - p) ≤ (scaled_of n).exponent) where
  on_f64 : OnMag (float 53 0) n
  on_f64 = finer p s 53 0 n (omega (arith, narrower.fewer)) (omega arith) on

  bits_are : mag_bits 53 0 n ≡ (scaled_of n).exponent * 2 ^ 52 + (scaled_of n).significand
  bits_are = sym (scaled_bits n on_f64)

  zero_only : mag_bits 53 0 n ≡ 0 → n ≡ 0
  zero_only e = sym (mag_back 53 11 0 (lit≤ tt) (lit< tt) n on_f64) ∙ ap (bits_mag 53 0) e ∙ zero_bits 53 0 (lit≤ tt)

  pub rebiasable : Rebiasable p s (mag_bits 53 0 n)
  rebiasable = record { normal = λ h. subst (λ (z : ℕ). (s - (53 - p)) * 2 ^ 52 ≤ z) (sym bits_are) (le_trans (mul-le-mul_right (2 ^ 52) (normal (λ e. h (ap (mag_bits 53 0) e ∙ zero_mag 53 0 (lit≤ tt))))) (le-add_right _ _)) }

  own_pick : (r : RoundingMode) → pick_mag (float p s) r n ≡ n
  own_pick r = ap nat_abs ((picked_pos (float p s) narrower.two r n).itself on)

  pub rebias_exact : rebiased p s (mag_bits 53 0 n) ≡ mag_bits p s n
  rebias_exact = cut 0 n
      (λ (h : 0 < n).
      let m = (scaled_of n).significand in
      let e = (scaled_of n).exponent in
      let reach = normal (λ (z : n ≡ 0). omega arith) in
      simp (ne_eqb (mag_bits 53 0 n) 0 (λ (z : mag_bits 53 0 n ≡ 0). omega (arith, zero_only z)))
      (ap (λ (z : ℕ). z / 2 ^ (53 - p)) (ap (λ (z : ℕ). z - (s - (53 - p)) * 2 ^ 52) bits_are ∙ taken_off e m (s - (53 - p)) reach ∙ ap (λ (z : ℕ). z + m) (sym (field_fits false TowardsZero m e p s canonical narrower reach)))
      ∙ ap (λ (w : Rounded). w.bits) (normal_rounded false TowardsZero m e p s canonical narrower reach)
      ∙ ap (λ (z : ℕ). mag_bits p s (pick_mag (float p s) TowardsZero z)) (scaled_whole n on_f64)
      ∙ ap (mag_bits p s) (own_pick TowardsZero)))
      (λ (h : n ≤ 0). let z : n ≡ 0 = omega arith in ap (λ (i : ℕ). rebiased p s (mag_bits 53 0 i)) z ∙ ap (rebiased p s) (zero_mag 53 0 (lit≤ tt)) ∙ sym (ap (mag_bits p s) z ∙ zero_mag p s narrower.two))
    where
      taken_off : (e m b : ℕ) → b ≤ e → e * 2 ^ 52 + m - b * 2 ^ 52 ≡ (e - b) * 2 ^ 52 + m
      taken_off e m b h = omega arith

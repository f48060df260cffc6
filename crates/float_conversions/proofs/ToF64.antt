-- Any float is a number of f64, an infinity or a NaN of it, so going to f64 rounds nothing.
use mathlib.Core.Path.{◌≡◌, refl, sym, ap, ◌∙◌}
use mathlib.Core.Bool.{Bool}
use Prim.Native.Nat.{◌*◌, ◌^◌}
use native.Mathlib.Omega.{arith}
use lib.Dec.{lit<, lit≤}
use lib.IntN.{nat_abs}
use Rattle.grid.specs.Grid.{OnMag, float}
use Rattle.grid.specs.Round.{pick_mag, rule_for, signed}
use Rattle.grid.specs.declared.RoundingMode.{RoundingMode}
use Rattle.grid.specs.declared.Ternary.TheVariants as side
use Rattle.grid.proofs.Picked.{picked_pos}
use Rattle.grid.proofs.Sides.{exact_is}
use Rattle.patterns.specs.Kind.{f64}
use Rattle.patterns.specs.Pattern.{mag_bits, nan_pattern, with_sign}
use Rattle.counts.specs.declared.Fared.TheVariants.{Exact}
use Rattle.codes.specs.declared.OutOfRangeMode.{OutOfRangeMode}
use Rattle.cast_spec.specs.Fit.{fit_number}
use Rattle.scaled.specs.Scaled.{Canonical, finite_bits}
use Rattle.scaled.specs.declared.Scaled.{Scaled}
use Rattle.scaled.proofs.Magnitudes.{scaled_only, scaled_bits}
use Rattle.floats.specs.Form.{f64_of}
use Rattle.floats.specs.declared.Class.{Class}
use Rattle.floats.specs.declared.Class.TheVariants.{Finite, Infinite, NotANumber}
use Rattle.floats.specs.declared.Float.{Float}
use Rattle.narrowing.specs.Fit.{Special, fit_class, fit_float}
use Rattle.float_range.proofs.Fits.{bits_fit, number_fit}
use Rattle.answers.specs.Outcome.{fit_as}

finite_on : (x : Scaled) → Canonical x → OnMag (float 53 0) (x.significand * 2 ^ x.exponent)
finite_on x c = record { m = x.significand; e = x.exponent; written = (c.small, omega arith, refl) }

own_pick : (x : Scaled) (c : Canonical x) (r : RoundingMode) → pick_mag (float 53 0) r (x.significand * 2 ^ x.exponent) ≡ x.significand * 2 ^ x.exponent
own_pick x c r = ap nat_abs ((picked_pos (float 53 0) (lit≤ tt) r (x.significand * 2 ^ x.exponent)).itself (finite_on x c))

bits_of : (x : Scaled) (c : Canonical x) (r : RoundingMode) → finite_bits x ≡ mag_bits 53 0 (pick_mag (float 53 0) r (x.significand * 2 ^ x.exponent))
bits_of x c r =
    ap finite_bits (scaled_only x.significand x.exponent c.small c.leading)
    ∙ scaled_bits (x.significand * 2 ^ x.exponent) (finite_on x c)
    ∙ ap (mag_bits 53 0) (sym (own_pick x c r))

pub finite_to_f64 : (neg : Bool) (x : Scaled) → Canonical x → (mode : RoundingMode) (range : OutOfRangeMode) → fit_as (with_sign 64 neg (finite_bits x)) Exact ≡ fit_number f64 mode range neg (signed neg (x.significand * 2 ^ x.exponent))
finite_to_f64 neg x h mode range =
    bits_fit 53 11 neg range (finite_bits x) side.Exact (omega (arith, h.small, h.finite))
    ∙ number_fit 53 11 0 (lit≤ tt) (lit< tt) mode range neg (x.significand * 2 ^ x.exponent) (finite_bits x) (bits_of x h (rule_for neg mode)) side.Exact (sym (exact_is _ _ (ap (signed neg) (own_pick x h (rule_for neg mode)))))

pub special_to_f64 : (f : Float) → Special f.class → (mode : RoundingMode) (range : OutOfRangeMode) → fit_as (f64_of f) Exact ≡ fit_float f64 mode range f
unfolding nan_pattern
special_to_f64 f ok mode range = go f.class refl ok
  where
    go : (c : Class) → f.class ≡ c → Special c → fit_as (f64_of (record { negative = f.negative; class = c })) Exact ≡ fit_class f64 mode range f c
    go (Finite x) e h = absurd h
    go Infinite e h = refl
    go (NotANumber t) e h = ap (λ (c : Class). fit_as (f64_of (record { negative = f.negative; class = c })) Exact) (sym e)

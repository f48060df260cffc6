-- An integer element going to a float kind: the f64 that is its pick has the pick's bits there, for any narrower format and for f64 itself.
use mathlib.Core.Path.{◌≡◌, sym, ap, subst, ◌∙◌}
use Prim.Native.Nat.{ℕ, ◌-◌, ◌*◌, ◌^◌, ◌≤◌, ◌<◌}
use native.Mathlib.Nat.{zero-mul}
use native.Mathlib.Omega.{arith}
use lib.Dec.{lit<, lit≤}
use lib.Pow.{pow_pos}
use Rattle.grid.specs.Grid.{OnMag, float}
use Rattle.grid.specs.Round.{pick_mag, rule_for, signed}
use Rattle.grid.specs.Ternary.{ternary_of, ternary_for}
use Rattle.grid.specs.declared.RoundingMode.{RoundingMode}
use Rattle.grid.specs.declared.Rounded.{Rounded}
use Rattle.grid.proofs.Kept.{size_pos, size_shift}
use Rattle.grid.proofs.Neighbours.{cut, finer}
use Rattle.grid.proofs.Picked.{picked_pos}
use Rattle.grid.proofs.Sides.{side_scale}
use Rattle.patterns.specs.Kind.{binary, f64}
use Rattle.patterns.specs.Float.{inf_bits}
use Rattle.patterns.specs.Pattern.{mag_bits, with_sign}
use Rattle.patterns.proofs.Floats.{mag_lt}
use Rattle.counts.specs.Counts.{by_pick}
use Rattle.counts.specs.declared.Fared.{Fared}
use Rattle.codes.specs.declared.OutOfRangeMode.{OutOfRangeMode}
use Rattle.scaled.specs.Scaled.{scaled_of}
use Rattle.floats.specs.Form.{CanonicalClass}
use Rattle.floats.specs.declared.Class.TheVariants.{Finite}
use Rattle.floats.proofs.Values.{scaled_canonical}
use Rattle.integers.specs.declared.Integer.{Integer}
use Rattle.integer_rounding.specs.Precision.{Precision}
use Rattle.integer_to_f64.specs.RoundedBits.{rounded_bits}
use Rattle.integer_to_f64.proofs.Bounds.{pick_in_f64, pick_on}
use Rattle.integer_to_f64.proofs.Scale.{pick_scale}
use Rattle.float_range.specs.Range.{fit_bits}
use Rattle.narrowing.specs.Format.{Narrower}
use Rattle.rebiasing.specs.Rebiased.{Rebiasable, rebiased}
use Rattle.float_range.proofs.Fits.{bits_fit, number_fit}
use Rattle.rebiasing.proofs.Exact.{rebias_exact, rebiasable}
use Rattle.integer_conversions.specs.Fit.{fit_integer}
use Rattle.answers.specs.Outcome.{fit_as}

module _ (x : Integer) (small : x.magnitude < 2 ^ 64) (mode : RoundingMode) (range : OutOfRangeMode) (rounded : Rounded) where
  abbrev r : RoundingMode
  r = rule_for x.negative mode

  -- the pick, as a multiple of 2^-1074
  abbrev picked : ℕ → ℕ
  picked p = pick_mag (float p 0) r x.magnitude * 2 ^ 1074

  picked_is : (p s : ℕ) → s ≤ 1074 → pick_mag (float p s) r (x.magnitude * 2 ^ 1074) ≡ picked p
  picked_is p s h = pick_scale p s r x.magnitude 1074 h

  abbrev bits : ℕ
  bits = rounded.bits

  bits_are : (p : ℕ) → rounded ≡ rounded_bits p x.negative mode x.magnitude → bits ≡ mag_bits 53 0 (picked p)
  bits_are p e = ap (λ (z : Rounded). z.bits) e

  -- the pick lies beside the multiple of 2^-1074 that the integer is as it lies beside the integer
  side_is : (p s : ℕ) → s ≤ 1074 → rounded ≡ rounded_bits p x.negative mode x.magnitude → rounded.ternary ≡ ternary_for (float p s) x.negative mode (x.magnitude * 2 ^ 1074)
  side_is p s h e =
      ap (λ (z : Rounded). z.ternary) e
      ∙ sym (side_scale x.negative x.magnitude (pick_mag (float p 0) r x.magnitude) (2 ^ 1074) (pow_pos 1074))
      ∙ ap (λ (z : ℕ). ternary_of (signed x.negative (x.magnitude * 2 ^ 1074)) (signed x.negative z)) (sym (picked_is p s h))

  pub integer_to_f64 : rounded ≡ rounded_bits 53 x.negative mode x.magnitude → (f : Fared) → f ≡ by_pick rounded.ternary → fit_as (with_sign 64 x.negative bits) f ≡ fit_integer f64 mode range x
  integer_to_f64 e f g =
      let ok : Precision 53 = record { two = lit≤ tt; at_most_53 = lit≤ tt } in
      ap (fit_as (with_sign 64 x.negative bits)) g
      ∙ bits_fit 53 11 x.negative range bits rounded.ternary (subst (λ (z : ℕ). z < inf_bits 53 11) (sym (bits_are 53 e)) (mag_lt 53 11 0 (lit≤ tt) (lit< tt) (picked 53) (pick_on 53 ok r x.magnitude small) (pick_in_f64 53 ok r x.magnitude small)))
      ∙ number_fit 53 11 0 (lit≤ tt) (lit< tt) mode range x.negative (x.magnitude * 2 ^ 1074) bits (bits_are 53 e ∙ ap (mag_bits 53 0) (sym (picked_is 53 0 (omega arith)))) rounded.ternary (side_is 53 0 (omega arith) e)

  -- ---- to a narrower format
  module _ (p w s : ℕ) (narrower : Narrower p s) (some : 0 < w) (fine : s ≤ 1074) (early : s - (53 - p) ≤ 1022) (e : rounded ≡ rounded_bits p x.negative mode x.magnitude) where
    ok : Precision p
    ok = record { two = narrower.two; at_most_53 = omega (arith, narrower.fewer) }

    on : OnMag (float p s) (picked p)
    on = subst (λ (z : ℕ). OnMag (float p s) z) (picked_is p s fine) (picked_pos (float p s) narrower.two r (x.magnitude * 2 ^ 1074)).on

    canonical : CanonicalClass (Finite (scaled_of (picked p)))
    canonical = scaled_canonical (picked p) (finer p s 53 0 (picked p) ok.at_most_53 (omega arith) on) (pick_in_f64 p ok r x.magnitude small)

    normal : (picked p ≡ 0 → ⊥) → s - (53 - p) ≤ (scaled_of (picked p)).exponent
    normal h = cut 0 (pick_mag (float p 0) r x.magnitude)
        (λ (l : 0 < pick_mag (float p 0) r x.magnitude). omega (arith, size_shift (pick_mag (float p 0) r x.magnitude) 1074 l, size_pos (pick_mag (float p 0) r x.magnitude) l))
        (λ (l : pick_mag (float p 0) r x.magnitude ≤ 0). absurd (h (ap (λ (z : ℕ). z * 2 ^ 1074) (none l) ∙ zero-mul (2 ^ 1074))))
      where
        none : {n : ℕ} → n ≤ 0 → n ≡ 0
        none l = omega arith

    pub integer_rebiasable : Rebiasable p s bits
    integer_rebiasable = subst (Rebiasable p s) (sym (bits_are p e)) (rebiasable p s (picked p) narrower on canonical normal)

    pub integer_narrowed : fit_bits p w x.negative range (rebiased p s bits) rounded.ternary ≡ fit_integer (binary p w s) mode range x
    integer_narrowed = number_fit p w s narrower.two some mode range x.negative (x.magnitude * 2 ^ 1074) (rebiased p s bits)
        (ap (rebiased p s) (bits_are p e) ∙ rebias_exact p s (picked p) narrower on canonical normal ∙ ap (mag_bits p s) (sym (picked_is p s fine))) rounded.ternary (side_is p s fine e)

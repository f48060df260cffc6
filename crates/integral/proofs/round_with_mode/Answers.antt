-- The sign over the bits of the whole number, which the format has, and where it lies.
use Rattle.std.proofs.Common.{◌≡◌, ℕ, ◌+◌, ◌-◌, ◌*◌, ◌^◌, ◌<◌, cond, ap, ap₂, subst, sym, ◌∙◌, lt_trans, arith}
use Rattle.grid.specs.Grid.{OnMag, float, whole}
use Rattle.grid.specs.Round.{pick_mag, rule_for}
use Rattle.grid.specs.declared.Rounded.{Rounded}
use Rattle.grid.specs.declared.RoundingMode.{RoundingMode}
use Rattle.patterns.specs.Kind.{binary}
use Rattle.patterns.specs.Pattern.{mag_bits, with_sign}
use Rattle.patterns.proofs.Floats.{inf_lt, mag_lt}
use Rattle.float_fields.specs.Format.{Format}
use Rattle.float_fields.proofs.Signs.{signed_sum, signed_fits}
use Rattle.scaled.specs.Scaled.{Canonical}
use Rattle.scaled.specs.declared.Scaled.{Scaled}
use Rattle.floats.specs.Form.{CanonicalClass, float_of}
use Rattle.floats.specs.declared.Class.TheVariants.{Finite}
use Rattle.floats.specs.declared.Float.{Float}
use Rattle.floats.proofs.Values.{format_formed, read_canonical}
use Rattle.integral.specs.Whole.{integral_of}
use Rattle.integral.specs.Integral.{rounded_of}
use Rattle.integral.specs.declared.WholeMagnitude.{WholeMagnitude}
use Rattle.integral.proofs.WholeFloats.{own_grid, own_range, own_value, rounded_pattern, whole_canonical}
use Rattle.integral.proofs.round_with_mode.Goals as goal

-- ---- an element x read of a pattern b, whose magnitude m is rounded to i and written as r below a sign
module _ (p w s : ℕ) (f : Format p w s) (mode : RoundingMode) (b : ℕ) (fits : b < 2 ^ (w + p)) (x : Float) (is : x ≡ float_of (binary p w s) b) (m : Scaled) (finite : x.class ≡ Finite m) where
  read : Canonical m
  read = subst CanonicalClass finite (read_canonical (binary p w s) b (format_formed p w s f b fits) x is)

  module _ (i : WholeMagnitude) (whole_is : i ≡ integral_of x.negative mode (m.significand * 2 ^ m.exponent)) where
    abbrev picked : ℕ
    picked = pick_mag (whole 1074) (rule_for x.negative mode) (m.significand * 2 ^ m.exponent)

    on : OnMag (float p s) picked
    on = own_grid p w s mode b x is f.two f.positive f.at_most_53 f.within_f64 f.fine m finite

    value : i.magnitude.significand * 2 ^ i.magnitude.exponent ≡ picked
    value = own_value p w s mode b x is f.two f.positive f.at_most_53 f.within_f64 f.fine m finite i whole_is

    own : Canonical i.magnitude × OnMag (float p s) (i.magnitude.significand * 2 ^ i.magnitude.exponent)
    own = (
      subst (λ (w : WholeMagnitude). Canonical w.magnitude) (sym whole_is) (whole_canonical (rule_for x.negative mode) m read),
      subst (OnMag (float p s)) (sym value) on,
    )

    module _ (r : ℕ) (written : r ≡ mag_bits p s (i.magnitude.significand * 2 ^ i.magnitude.exponent)) (h : ℕ) (sign : h ≡ cond x.negative (2 ^ (w + p - 1)) 0) where
      bits_are : r ≡ mag_bits p s picked
      bits_are = written ∙ ap (mag_bits p s) value

      bits_lt : r < 2 ^ (w + p - 1)
      bits_lt =
          let top = own_range p w s mode b x is f.two f.positive f.at_most_53 f.within_f64 f.fine m finite f.whole_top in
          subst (λ (z : ℕ). z < 2 ^ (w + p - 1)) (sym bits_are) (lt_trans (mag_lt p w s f.two f.positive picked on top) (inf_lt p w s f.two f.positive))

      sum_fits : h + r < 2 ^ 64
      sum_fits = signed_fits (w + p) x.negative h r sign (omega (arith, f.two)) (omega (arith, f.at_most_53, f.at_most_11)) bits_lt

      rounded : record { bits = h + r; ternary = i.ternary } ≡ rounded_of (binary p w s) mode b
      rounded =
          ap {B = Rounded} (λ (z : ℕ). record { bits = z; ternary = i.ternary })
          (signed_sum (w + p) x.negative h r sign ∙ ap (with_sign (w + p) x.negative) bits_are)
          ∙ rounded_pattern p w s mode b x is f.two f.positive f.at_most_53 f.within_f64 f.fine m finite i.ternary (ap (λ (w : WholeMagnitude). w.ternary) whole_is)

pub integral-rounded-requires : goal.integral-rounded-requires
integral-rounded-requires g c =
    let f = g.B.FloatBits in
    let b = c.to_u64-bits.ensures in
    read f.PRECISION f.EXPONENT_BITS f.SPACING g.met.B.FloatBits.format c.args.mode (f.pattern c.args.b) (subst (λ (z : ℕ). z < 2 ^ (f.EXPONENT_BITS + f.PRECISION)) b.0 b.1) c.read-x.result c.read-x.ensures c.in-Finite.magnitude c.in-Finite.is

pub write_own-written-requires : goal.write_own-written-requires
write_own-written-requires g c =
    let f = g.B.FloatBits in
    let b = c.to_u64-bits.ensures in
    own f.PRECISION f.EXPONENT_BITS f.SPACING g.met.B.FloatBits.format c.args.mode (f.pattern c.args.b) (subst (λ (z : ℕ). z < 2 ^ (f.EXPONENT_BITS + f.PRECISION)) b.0 b.1) c.read-x.result c.read-x.ensures c.in-Finite.magnitude c.in-Finite.is
    c.integral-rounded.result c.integral-rounded.ensures

pub overflow_add-result : goal.overflow_add-result
overflow_add-result g c =
    let f = g.B.FloatBits in
    let b = c.to_u64-bits.ensures in
    record {
      fits = sum_fits f.PRECISION f.EXPONENT_BITS f.SPACING g.met.B.FloatBits.format c.args.mode (f.pattern c.args.b) (subst (λ (z : ℕ). z < 2 ^ (f.EXPONENT_BITS + f.PRECISION)) b.0 b.1) c.read-x.result c.read-x.ensures c.in-Finite.magnitude c.in-Finite.is
          c.integral-rounded.result c.integral-rounded.ensures c.write_own-written.result.bits (ap (λ (r : Rounded). r.bits) c.write_own-written.ensures) c.sign_bit-sign.result
          (c.sign_bit-sign.ensures ∙ ap₂ (λ (w p : ℕ). cond c.read-x.result.negative (2 ^ (w + p - 1)) 0) c.EXPONENT_BITS.ensures c.PRECISION.ensures);
    }

pub returns : goal.returns
returns g c =
    let f = g.B.FloatBits in
    let b = c.to_u64-bits.ensures in
    rounded f.PRECISION f.EXPONENT_BITS f.SPACING g.met.B.FloatBits.format c.args.mode (f.pattern c.args.b) (subst (λ (z : ℕ). z < 2 ^ (f.EXPONENT_BITS + f.PRECISION)) b.0 b.1) c.read-x.result c.read-x.ensures c.in-Finite.magnitude c.in-Finite.is
    c.integral-rounded.result c.integral-rounded.ensures c.write_own-written.result.bits (ap (λ (r : Rounded). r.bits) c.write_own-written.ensures) c.sign_bit-sign.result
    (c.sign_bit-sign.ensures ∙ ap₂ (λ (w p : ℕ). cond c.read-x.result.negative (2 ^ (w + p - 1)) 0) c.EXPONENT_BITS.ensures c.PRECISION.ensures)

-- The sign's bit over the bits of the pick.
use Rattle.std.proofs.Common.{◌≡◌, ℕ, ◌+◌, ◌*◌, ◌%◌, ◌^◌, ◌<◌, Bool, true, false, ℤ, sym, ap, ◌∙◌, arith}
use lib.Dec.{lit≤}
use mir.Val.{bool_byte}
use Rattle.grid.specs.Grid.{float}
use Rattle.grid.specs.Round.{pick_mag, rule_for, signed}
use Rattle.grid.specs.declared.RoundingMode.TheVariants.{NearestEven}
use Rattle.grid.specs.declared.Rounded.{Rounded}
use Rattle.patterns.specs.Kind.{f64}
use Rattle.patterns.specs.Pattern.{mag_bits, pattern_of, with_sign}
use Rattle.patterns.proofs.Floats.{abs_signed}
use Rattle.integer_to_f64.proofs.Bounds.{pick_bits_lt}
use Rattle.integer_to_f64.proofs.Scale.{pick_scale_signed}
use Rattle.integer_to_f64.proofs.nearest_f64.Goals as goal

over_sign : (s : Bool) (b : ℕ) → b + bool_byte s * 2 ^ 63 % 2 ^ 64 ≡ with_sign 64 s b
over_sign true b = omega arith
over_sign false b = omega arith

sum_fits : (s : Bool) (b : ℕ) → b < 2 ^ 63 → b + bool_byte s * 2 ^ 63 % 2 ^ 64 < 2 ^ 64
sum_fits true b h = omega arith
sum_fits false b h = omega arith

signed_pattern : (s : Bool) (n : ℕ) → with_sign 64 s (mag_bits 53 0 n) ≡ pattern_of f64 s (signed s n)
unfolding pattern_of
signed_pattern s n = ap (λ (z : ℕ). with_sign 64 s (mag_bits 53 0 z)) (sym (abs_signed s n))

pub overflow_add-result : goal.overflow_add-result
overflow_add-result c =
    let a = c.args in
    let x = c.int_to_f64_magnitude-rounded in
    record { fits = sum_fits a.negative x.result.bits (omega (arith, ap (λ (r : Rounded). r.bits) x.ensures, pick_bits_lt 53 (record { two = lit≤ tt; at_most_53 = lit≤ tt }) (rule_for a.negative NearestEven) a.magnitude (omega arith))) }

pub returns : goal.returns
returns c =
    let a = c.args in
    let x = c.int_to_f64_magnitude-rounded in
    let n = pick_mag (float 53 0) (rule_for a.negative NearestEven) a.magnitude * 2 ^ 1074 in
    over_sign a.negative x.result.bits
    ∙ ap (λ (r : Rounded). with_sign 64 a.negative r.bits) x.ensures
    ∙ signed_pattern a.negative n
    ∙ ap (λ (z : ℤ). pattern_of f64 a.negative z) (sym (pick_scale_signed 53 0 (lit≤ tt) NearestEven a.negative a.magnitude 1074 (lit≤ tt)))

-- The f64 of the number, or its narrowing to the row.
use Rattle.std.proofs.Common.{ℕ, ◌*◌, ◌^◌, sym, ap, ◌∙◌}
use Rattle.grid.specs.Round.{signed}
use Rattle.patterns.specs.Pattern.{with_sign}
use Rattle.kinds.specs.Row.{float_of}
use Rattle.kinds.specs.declared.FloatFormat.{FloatFormat}
use Rattle.counts.specs.declared.Fared.TheVariants.{Exact}
use Rattle.cast_spec.specs.Fit.{fit_number}
use Rattle.float_fields.proofs.Signs.{signed_sum}
use Rattle.kinds.proofs.FloatRows.{double}
use Rattle.float_conversions.proofs.ToF64.{finite_to_f64}
use Rattle.float_conversions.proofs.finite_to_float.Goals as goal
use Rattle.answers.specs.Outcome.{fit_as}

pub returns-in-53 : goal.returns-in-53
returns-in-53 c =
    let a = c.args in
    let s = c.sign_bit in
    c.exact.ensures
    ∙ ap (λ (b : ℕ). fit_as b Exact) (signed_sum 64 a.negative s.result c.finite_bits.result s.ensures ∙ ap (with_sign 64 a.negative) c.finite_bits.ensures)
    ∙ finite_to_f64 a.negative a.x c.requires.0 a.mode a.range
    ∙ ap (λ (f : FloatFormat). fit_number (float_of f) a.mode a.range a.negative (signed a.negative (a.x.significand * 2 ^ a.x.exponent))) (sym (double a.to c.requires.1 c.in-53.is))

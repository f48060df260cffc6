-- The f64 is the pick, and its bits are rebiased with nothing rounded.
use Rattle.std.proofs.Common.{◌≡◌, ℕ, sym, ap, ◌∙◌, arith, lit<}
use lib.Dec.{lit≤}
use Rattle.grid.specs.Round.{rule_for}
use Rattle.grid.specs.declared.Rounded.{Rounded}
use Rattle.kinds.specs.Row.{float_of}
use Rattle.kinds.specs.declared.FloatFormat.{FloatFormat}
use Rattle.float_fields.proofs.Signs.{signed_sum, signed_fits}
use Rattle.integer_to_f64.specs.RoundedBits.{rounded_bits}
use Rattle.integer_to_f64.proofs.Bounds.{pick_bits_lt}
use Rattle.integer_conversions.specs.Fit.{fit_integer}
use Rattle.kinds.proofs.FloatRows.{double}
use Rattle.narrowing.proofs.Rows.{row_narrower}
use Rattle.integer_conversions.proofs.IntToFloat.{integer_to_f64, integer_rebiasable, integer_narrowed}
use Rattle.integer_conversions.proofs.Rows.{row_precision, row_fine, row_early}
use Rattle.integer_conversions.proofs.convert_int_to_float.Goals as goal
use Rattle.answers.specs.Outcome.{fit_as}

pub overflow_add-result : goal.overflow_add-result
overflow_add-result c =
    let a = c.args in
    let i = c.int_to_f64_magnitude-rounded in
    record { fits = signed_fits 64 a.x.negative c.sign_bit.result i.result.bits c.sign_bit.ensures (lit< tt) (lit≤ tt) (omega (arith, ap (λ (z : Rounded). z.bits) i.ensures, pick_bits_lt a.to.precision (row_precision a.to c.requires) (rule_for a.x.negative a.mode) a.x.magnitude (omega arith))) }

pub fit_rebiased-requires : goal.fit_rebiased-requires
fit_rebiased-requires c =
    let a = c.args in
    let i = c.int_to_f64_magnitude-rounded in
    let n = row_narrower a.to c.requires (λ e. omega arith) in
    (n.0, n.1, integer_rebiasable a.x (omega arith) a.mode a.range i.result _ a.to.exponent_bits _ n.0 n.1.positive (row_fine a.to c.requires) (row_early a.to c.requires) i.ensures)

pub returns-in-53 : goal.returns-in-53
returns-in-53 c =
    let a = c.args in
    let i = c.int_to_f64_magnitude-rounded in
    let s = c.sign_bit in
    let d = double a.to c.requires c.in-53.is in
    -- the pick at the row's precision
    let rounded : i.result ≡ rounded_bits 53 a.x.negative a.mode a.x.magnitude = i.ensures ∙ ap (λ (z : ℕ). rounded_bits z a.x.negative a.mode a.x.magnitude) (ap (λ (f : FloatFormat). f.precision) d) in
    ap (λ (b : ℕ). fit_as b c.by_pick.result) (signed_sum 64 a.x.negative s.result i.result.bits s.ensures)
    ∙ integer_to_f64 a.x (omega arith) a.mode a.range i.result rounded c.by_pick.result c.by_pick.ensures
    ∙ ap (λ (f : FloatFormat). fit_integer (float_of f) a.mode a.range a.x) (sym d)

pub returns-in_default : goal.returns-in_default
returns-in_default c =
    let a = c.args in
    let i = c.int_to_f64_magnitude-rounded in
    let n = row_narrower a.to c.requires (λ e. omega arith) in
    c.fit_rebiased.ensures ∙ integer_narrowed a.x (omega arith) a.mode a.range i.result _ a.to.exponent_bits _ n.0 n.1.positive (row_fine a.to c.requires) (row_early a.to c.requires) i.ensures

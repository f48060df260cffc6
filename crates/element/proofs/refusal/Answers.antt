-- The ends are the target's; a signed one is read back from its bits as it was.
use Rattle.std.proofs.Common.{◌≡◌, sym, ap, subst, ◌∙◌, rules}
use lib.IntN.{ℤ}
use mir.Syntax.{w64}
use mir.Val.{to_z, of_z}
use Rattle.kinds.specs.Row.{kind_in, FormatRow}
use Rattle.kinds.specs.declared.Format.{Format}
use Rattle.answers.specs.declared.ConversionError.{ConversionError}
use Rattle.answers.specs.declared.ElementRefusal.TheVariants.{OutOfRange}
use Rattle.std.specs.Prelude.{Err}
use Rattle.cast_spec.specs.Fit.{filled, past_range}
use Rattle.element.proofs.Refusals.{integer_ends, float_ends}
use Rattle.element.proofs.refusal.Goals as goal

pub returns-in-Integer : goal.returns-in-Integer
returns-in-Integer c =
    let a = c.args in
    let k = c.in-Integer.t in
    let low_back : to_z w64 (of_z w64 k.lowest) ≡ k.lowest = search rules in
    ap (λ (z : ℤ). Err (OutOfRange a.value z k.highest)) low_back
    ∙ integer_ends k (subst FormatRow c.in-Integer.is c.requires) a.value
    ∙ ap (λ (f : Format). past_range (kind_in f) a.value) (sym c.in-Integer.is)
    ∙ ap (λ (e : ConversionError). filled (kind_in a.target) a.value (Err e)) (sym c.in-OutOfRange.is)

pub returns-in-Float : goal.returns-in-Float
returns-in-Float c =
    let a = c.args in
    float_ends c.in-Float.t (subst FormatRow c.in-Float.is c.requires) a.value
    ∙ ap (λ (f : Format). past_range (kind_in f) a.value) (sym c.in-Float.is)
    ∙ ap (λ (e : ConversionError). filled (kind_in a.target) a.value (Err e)) (sym c.in-OutOfRange.is)

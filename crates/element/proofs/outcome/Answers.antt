-- The value is the element's f64.
use Rattle.std.proofs.Common.{ℕ, sym, ap, subst, ◌∙◌}
use Rattle.patterns.specs.Pattern.{as_f64}
use Rattle.kinds.specs.Row.{kind_in}
use Rattle.std.specs.Prelude.{Err}
use Rattle.cast_spec.specs.Fit.{filled}
use Rattle.element.specs.Element.{CanonicalElement, element_f64}
use Rattle.element.proofs.Refusals.{canonical_of, value_of}
use Rattle.element.proofs.outcome.Goals as goal

pub as_f64-requires : goal.as_f64-requires
as_f64-requires c = subst CanonicalElement (sym c.read.ensures) (canonical_of c.args.source c.args.b c.requires.0)

pub returns-in-Err : goal.returns-in-Err
returns-in-Err c =
    let a = c.args in
    c.refusal.ensures
    ∙ ap (λ (v : ℕ). filled (kind_in a.target) v (Err c.in-Err.error)) (c.as_f64.ensures ∙ ap element_f64 c.read.ensures ∙ value_of a.source a.b c.requires.0)
    ∙ ap (filled (kind_in a.target) (as_f64 (kind_in a.source) a.b)) (sym c.in-Err.is)

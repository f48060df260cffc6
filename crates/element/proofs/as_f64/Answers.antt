-- An integer's nearest f64, and a float's own.
use Rattle.std.proofs.Common.{sym, ap, ◌∙◌}
use Rattle.element.specs.Element.{element_f64}
use Rattle.element.proofs.as_f64.Goals as goal

pub returns-in-Integer : goal.returns-in-Integer
unfolding element_f64
returns-in-Integer c = c.nearest_f64.ensures ∙ ap element_f64 (sym c.in-Integer.is)

pub returns-in-Float : goal.returns-in-Float
unfolding element_f64
returns-in-Float c = c.write_f64.ensures ∙ ap element_f64 (sym c.in-Float.is)

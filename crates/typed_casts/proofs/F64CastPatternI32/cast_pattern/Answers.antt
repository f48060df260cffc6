-- The steps are those of the pattern.
use Rattle.std.proofs.Common.{◌∙◌, true}
use Rattle.floats.proofs.Values.{f64_formed}
use Rattle.steps.proofs.Steps.{float_to_integer_steps}
use Rattle.typed_casts.proofs.F64CastPatternI32.cast_pattern.Goals as goal

pub returns : goal.returns
returns c =
    let a = c.args in
    c.step_float_to_int.ensures ∙ float_to_integer_steps 53 11 0 a.b (f64_formed _ c.requires) c.read-x.result c.read-x.ensures a.found true 32 a.modes.rounding a.modes.range

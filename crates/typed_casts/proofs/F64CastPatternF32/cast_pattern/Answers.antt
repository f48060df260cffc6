-- The steps are those of the pattern.
use Rattle.std.proofs.Common.{◌∙◌}
use Rattle.steps.proofs.Steps.{f64_to_float_steps}
use Rattle.typed_casts.proofs.F64CastPatternF32.cast_pattern.Goals as goal

pub returns : goal.returns
returns c =
    let a = c.args in
    c.step_float_to_float.ensures ∙ f64_to_float_steps 24 8 925 a.b c.requires c.read-x.result c.read-x.ensures a.found a.modes.rounding a.modes.range

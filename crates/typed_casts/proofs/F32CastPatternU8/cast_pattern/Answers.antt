-- The steps are those of the pattern.
use Rattle.std.proofs.Common.{◌∙◌, false}
use Rattle.floats.proofs.Values.{f32_formed}
use Rattle.steps.proofs.Steps.{float_to_integer_steps}
use Rattle.typed_casts.proofs.F32CastPatternU8.cast_pattern.Goals as goal

pub returns : goal.returns
returns c =
    let a = c.args in
    c.step_float_to_int.ensures ∙ float_to_integer_steps 24 8 925 a.b (f32_formed _) c.read-x.result c.read-x.ensures a.found false 8 a.modes.rounding a.modes.range

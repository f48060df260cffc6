-- The steps are those of the pattern.
use Rattle.std.proofs.Common.{◌∙◌, true}
use Rattle.patterns.specs.Kind.{f32}
use Rattle.steps.proofs.Steps.{integer_steps}
use Rattle.typed_casts.proofs.Formats.{i64_pattern}
use Rattle.typed_casts.proofs.I64CastPatternF32.cast_pattern.Goals as goal

pub returns : goal.returns
returns c =
    let a = c.args in
    c.step_int_to_float.ensures ∙ integer_steps a.b true 64 (i64_pattern _ c.requires) c.int_magnitude-x.result c.int_magnitude-x.ensures a.found f32 a.modes.rounding a.modes.range

-- What was found, or the steps of the route.
use Rattle.std.proofs.Common.{ℕ, ◌^◌, ◌<◌, sym, ap, subst, ◌∙◌}
use Rattle.floats.specs.declared.Float.{Float}
use Rattle.narrowing.specs.Fit.{fit_float}
use Rattle.floats.proofs.Values.{read_canonical}
use Rattle.integers.specs.Magnitude.{IntegerPattern}
use Rattle.kinds.specs.Row.{IntegerRow, float_of, integer_of, kind_in}
use Rattle.kinds.specs.declared.IntegerFormat.{IntegerFormat}
use Rattle.cast_spec.specs.Fit.{fit_of, unmapped}
use Rattle.steps.specs.Steps.{found_fit, stepped}
use Rattle.routes.specs.Route.{RouteRow, source_of, target_of}
use Rattle.routes.specs.declared.Route.{Route}
use Rattle.steps.proofs.Found.{missing_fit}
use Rattle.element.proofs.FloatRows.{row_formed}
use Rattle.steps.proofs.Steps.{float_to_integer_steps, integer_steps, other_precision, unchanged}
use Rattle.route_steps.specs.Source.{SourcePattern}
use Rattle.route_steps.proofs.step.Goals as goal

-- a pattern of the source kind
integer_pattern : (b : ℕ) (f : IntegerFormat) → IntegerRow f → b < 2 ^ f.bits → IntegerPattern b f.bits
integer_pattern b f row h = record { positive = row.positive; at_most_64 = row.at_most_64; fits = h }

pub step_float_to_int-requires : goal.step_float_to_int-requires
step_float_to_int-requires c =
    let f = c.in-FloatToInt.from in
    let row = subst RouteRow c.in-FloatToInt.is c.requires.0 in
    (read_canonical (float_of f) c.args.b (row_formed f row.0 c.args.b (subst (SourcePattern c.args.b) c.in-FloatToInt.is c.requires.1)) c.read_float-x.result c.read_float-x.ensures, row.1)

pub step_float_to_float-requires : goal.step_float_to_float-requires
step_float_to_float-requires c =
    let f = c.in-FloatToFloat.from in
    let row = subst RouteRow c.in-FloatToFloat.is c.requires.0 in
    let x = c.read_float-x-in-FloatToFloat in
    (read_canonical (float_of f) c.args.b (row_formed f row.0 c.args.b (subst (SourcePattern c.args.b) c.in-FloatToFloat.is c.requires.1)) x.result x.ensures, row.1)

pub returns-in-Same : goal.returns-in-Same
returns-in-Same c =
    let a = c.args in
    let f = c.in-Same.field-0 in
    c.exact.ensures
    ∙ unchanged f (subst RouteRow c.in-Same.is c.requires.0) a.b (subst (SourcePattern a.b) c.in-Same.is c.requires.1) a.mode a.range
    ∙ missing_fit a.found (fit_of (unmapped (kind_in f) (kind_in f) a.mode a.range a.b)) c.in_default.is
    ∙ ap (λ (r : Route). stepped a.found (source_of r) (target_of r) a.mode a.range a.b) (sym c.in-Same.is)

pub returns-in-IntToInt : goal.returns-in-IntToInt
returns-in-IntToInt c =
    let a = c.args in
    let k = c.in-IntToInt in
    let x = c.int_magnitude-x in
    c.step_int_to_int.ensures a.mode
    ∙ integer_steps a.b k.from.signed k.from.bits (integer_pattern a.b k.from (subst RouteRow k.is c.requires.0).0 (subst (SourcePattern a.b) k.is c.requires.1)) x.result x.ensures a.found (integer_of k.to) a.mode a.range
    ∙ ap (λ (r : Route). stepped a.found (source_of r) (target_of r) a.mode a.range a.b) (sym k.is)

pub returns-in-IntToFloat : goal.returns-in-IntToFloat
returns-in-IntToFloat c =
    let a = c.args in
    let k = c.in-IntToFloat in
    let x = c.int_magnitude-x-in-IntToFloat in
    c.step_int_to_float.ensures
    ∙ integer_steps a.b k.from.signed k.from.bits (integer_pattern a.b k.from (subst RouteRow k.is c.requires.0).0 (subst (SourcePattern a.b) k.is c.requires.1)) x.result x.ensures a.found (float_of k.to) a.mode a.range
    ∙ ap (λ (r : Route). stepped a.found (source_of r) (target_of r) a.mode a.range a.b) (sym k.is)

pub returns-in-FloatToInt : goal.returns-in-FloatToInt
returns-in-FloatToInt c =
    let a = c.args in
    let k = c.in-FloatToInt in
    let f = k.from in
    let x = c.read_float-x in
    c.step_float_to_int.ensures
    ∙ float_to_integer_steps f.precision f.exponent_bits _ a.b (row_formed f (subst RouteRow k.is c.requires.0).0 a.b (subst (SourcePattern a.b) k.is c.requires.1)) x.result x.ensures a.found k.to.signed k.to.bits a.mode a.range
    ∙ ap (λ (r : Route). stepped a.found (source_of r) (target_of r) a.mode a.range a.b) (sym k.is)

pub returns-in-FloatToFloat : goal.returns-in-FloatToFloat
returns-in-FloatToFloat c =
    let a = c.args in
    let k = c.in-FloatToFloat in
    let f = k.from in
    let row = subst RouteRow k.is c.requires.0 in
    let x = c.read_float-x-in-FloatToFloat in
    c.step_float_to_float.ensures
    ∙ ap (λ (z : Float). found_fit a.found (fit_float (float_of k.to) a.mode a.range z)) x.ensures
    ∙ ap (found_fit a.found) (other_precision a.b a.mode a.range f (record { row = row.0; fits = subst (SourcePattern a.b) k.is c.requires.1 }) k.to row.1 row.2)
    ∙ ap (λ (r : Route). stepped a.found (source_of r) (target_of r) a.mode a.range a.b) (sym k.is)

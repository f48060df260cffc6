-- Not finite, or the range step of the whole number that it is rounded to.
use Rattle.float_conversions.proofs.FloatToInt.{rounded_fit}
use Rattle.float_conversions.proofs.convert_float_to_int.Goals as goal

pub returns : goal.returns
returns c =
    let a = c.args in
    let k = c.in-Finite in
    let w = c.round_to_whole-whole in
    rounded_fit a.to.signed a.to.bits a.mode a.range a.x k.magnitude k.is w.result w.ensures c.apply_range.result c.apply_range.ensures

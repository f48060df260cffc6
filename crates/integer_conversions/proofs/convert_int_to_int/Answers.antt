-- The range step of its own number.
use Rattle.std.proofs.Common.{arith}
use Rattle.integer_conversions.proofs.Integers.{range_is_fit}
use Rattle.integer_conversions.proofs.convert_int_to_int.Goals as goal

pub returns : goal.returns
returns c = let a = c.args in range_is_fit a.to.signed a.to.bits a.range a.x (omega arith) c.apply_range.result c.apply_range.ensures

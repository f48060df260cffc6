-- The digits are as many as the number takes.
use Rattle.std.proofs.Common.{arith}
use Rattle.text.proofs.Numbers.{decimal_room, decimal_by}
use Rattle.text.proofs.put_decimal.Goals as goal

pub put_digits-requires : goal.put_digits-requires
put_digits-requires c = let a = c.args in (omega arith, omega arith, decimal_room a.out.now a.at a.v c.decimal_places.result c.requires.0 c.requires.1 c.decimal_places.ensures)

pub returns : goal.returns
returns c =
    let a = c.args in
    decimal_by a.out.now a.at a.v c.decimal_places.result c.put_digits.result c.put_digits.new.out c.decimal_places.ensures c.put_digits.ensures

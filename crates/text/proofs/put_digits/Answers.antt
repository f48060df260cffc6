-- One digit more stands before those passed.
use Rattle.std.proofs.Common.{◌-◌, arith}
use Rattle.text.proofs.Numbers.{digits_go_on}
use Rattle.text.proofs.put_digits.Goals as goal

pub loop-place-preserved : goal.loop-place-preserved
loop-place-preserved c =
    let a = c.args in
    let l = c.loop-place in
    digits_go_on a.out.now a.at a.base a.k a.v c.requires.2 l.place l.rest l.out l.invariant (l.place - 1) (omega arith) (omega arith) c.glyph.result c.glyph.ensures

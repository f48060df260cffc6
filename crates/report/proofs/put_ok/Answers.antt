-- A word, a number and a line's end, one after the other.
use Rattle.report.proofs.Lines.{ok_room, ok_told}
use Rattle.report.proofs.put_ok.Goals as goal

pub put_byte-requires : goal.put_byte-requires
put_byte-requires c =
    let a = c.args in
    let y = c.put_text-told in
    let x = c.put_decimal-end in
    ok_room a.out.now y.result y.new.out a.n x.result x.new.out c.requires.0 c.requires.1 y.ensures x.ensures

pub returns : goal.returns
returns c =
    let a = c.args in
    let y = c.put_text-told in
    let x = c.put_decimal-end in
    ok_told a.out.now y.result y.new.out a.n x.result x.new.out c.put_byte.result c.put_byte.new.out y.ensures x.ensures c.put_byte.ensures

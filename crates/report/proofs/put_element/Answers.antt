-- The digits of the pattern, and a line's end.
use Rattle.std.proofs.Common.{take, drop}
use Rattle.bytes_le.specs.Bytes.{from_le}
use Rattle.report.proofs.Lines.{line_told}
use Rattle.report.proofs.put_element.Goals as goal

pub returns : goal.returns
returns c =
    let a = c.args in
    let v = c.read_le-v in
    let x = c.put_digits-end in
    line_told a.out.now a.at a.w v.result x.result x.new.out (from_le (take a.w (drop a.from a.bytes.now))) c.put_byte.result c.put_byte.new.out v.ensures.pattern x.ensures c.put_byte.ensures

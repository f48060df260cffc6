-- A word and a number, then a line's end or the position before it.
use Rattle.std.proofs.Common.{[], sym, ◌∙◌, arith}
use Rattle.report.proofs.Lines.{number_room, refused_plain, at_room, position_room, refused_at}
use Rattle.report.proofs.put_refused.Goals as goal

pub put_byte-requires : goal.put_byte-requires
put_byte-requires c =
    let a = c.args in
    let y = c.put_text-told in
    let x = c.put_decimal-end in
    let h = number_room a.out.now y.result y.new.out a.number x.result x.new.out c.requires.0 c.requires.2 y.ensures x.ensures in
    omega arith

pub returns-then-not-names_position : goal.returns-then-not-names_position
returns-then-not-names_position c =
    let a = c.args in
    let y = c.put_text-told in
    let x = c.put_decimal-end in
    let z = c.put_byte in
    refused_plain a.out.now y.result y.new.out a.number x.result x.new.out c.requires.0 c.requires.2 y.ensures x.ensures a.position z.result z.new.out (sym c.names_position.ensures ∙ c.if-not-names_position.true) z.ensures

pub put_text-there-requires : goal.put_text-there-requires
put_text-there-requires c =
    let a = c.args in
    let y = c.put_text-told in
    let x = c.put_decimal-end in
    let h = number_room a.out.now y.result y.new.out a.number x.result x.new.out c.requires.0 c.requires.2 y.ensures x.ensures in
    omega arith

pub put_decimal-last-requires : goal.put_decimal-last-requires
put_decimal-last-requires c =
    let a = c.args in
    let y = c.put_text-told in
    let x = c.put_decimal-end in
    let z = c.put_text-there in
    let h = at_room a.out.now y.result y.new.out a.number x.result x.new.out c.requires.0 c.requires.2 y.ensures x.ensures a.position z.result z.new.out z.ensures 0 [] in
    (c.requires.1, omega arith)

pub put_byte-requires-2 : goal.put_byte-requires-2
put_byte-requires-2 c =
    let a = c.args in
    let y = c.put_text-told in
    let x = c.put_decimal-end in
    let z = c.put_text-there in
    let v = c.put_decimal-last in
    position_room a.out.now y.result y.new.out a.number x.result x.new.out c.requires.0 c.requires.2 y.ensures x.ensures a.position z.result z.new.out z.ensures v.result v.new.out c.requires.1 v.ensures

pub returns : goal.returns
returns c =
    let a = c.args in
    let y = c.put_text-told in
    let x = c.put_decimal-end in
    let z = c.put_text-there in
    let v = c.put_decimal-last in
    let u = c.put_byte-2 in
    refused_at a.out.now y.result y.new.out a.number x.result x.new.out c.requires.0 c.requires.2 y.ensures x.ensures a.position z.result z.new.out z.ensures v.result v.new.out c.requires.1 v.ensures (sym c.names_position.ensures ∙ c.if-not-names_position.false) u.result u.new.out u.ensures

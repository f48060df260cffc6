-- One line more is written, and all of them are the elements'.
use Rattle.report.proofs.Lines.{lines_start, lines_end, line_asks, lines_go_on}
use Rattle.report.proofs.put_elements.Goals as goal

pub loop-i-init : goal.loop-i-init
loop-i-init c = let a = c.args in lines_start a.out.now a.at a.bytes.now a.w a.k c.requires

pub put_element-to-requires : goal.put_element-to-requires
put_element-to-requires c =
    let a = c.args in
    let l = c.loop-i in
    line_asks a.out.now a.at a.bytes.now a.w a.k c.requires l.i l.to l.out l.invariant c.loop-i-test.true

pub loop-i-preserved : goal.loop-i-preserved
loop-i-preserved c =
    let a = c.args in
    let l = c.loop-i in
    let x = c.put_element-to in
    lines_go_on a.out.now a.at a.bytes.now a.w a.k c.requires l.i l.to l.out l.invariant c.loop-i-test.true x.result x.new.out x.ensures

pub returns : goal.returns
returns c =
    let a = c.args in
    let l = c.loop-i in
    lines_end a.out.now a.at a.bytes.now a.w a.k c.requires l.i l.to l.out l.invariant c.loop-i-test.false

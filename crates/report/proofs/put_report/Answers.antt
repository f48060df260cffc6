-- The first line, then the lines of the converted elements.
use Rattle.std.proofs.Common.{ℕ, sym, ap, ◌∙◌}
use Rattle.std.specs.Prelude.{Option, unwrap_or}
use Rattle.report.proofs.Report.{ok_lines_ask, ok_report, refused_asks, refused_lines_ask, refused_report, converted_number, refused_number, position_told}
use Rattle.report.proofs.put_report.Goals as goal

pub put_elements-requires : goal.put_elements-requires
put_elements-requires c =
    let a = c.args in
    let x = c.put_ok-at in
    ok_lines_ask a.out.now a.bytes.now a.answer a.n a.w c.requires x.result x.new.out x.ensures

pub returns-then-is_ok : goal.returns-then-is_ok
returns-then-is_ok c =
    let a = c.args in
    let x = c.put_ok-at in
    let y = c.put_elements in
    ok_report a.out.now a.bytes.now a.answer a.n a.w c.requires x.result x.new.out x.ensures (converted_number a.answer c.if-is_ok.ensures.value) y.result y.new.out y.ensures

pub put_refused-at-requires : goal.put_refused-at-requires
put_refused-at-requires c =
    let a = c.args in
    let m = c.number-number in
    let p = c.unwrap_or-position in
    let lies = p.ensures ∙ ap (λ (o : Option ℕ). unwrap_or o 0) c.position.ensures ∙ position_told a.answer in
    refused_asks a.out.now a.bytes.now a.answer a.n a.w c.requires m.result p.result m.ensures lies

pub put_elements-requires-2 : goal.put_elements-requires-2
put_elements-requires-2 c =
    let a = c.args in
    let m = c.number-number in
    let p = c.unwrap_or-position in
    let lies = p.ensures ∙ ap (λ (o : Option ℕ). unwrap_or o 0) c.position.ensures ∙ position_told a.answer in
    let x = c.put_refused-at in
    refused_lines_ask a.out.now a.bytes.now a.answer a.n a.w c.requires m.result p.result m.ensures lies x.result x.new.out x.ensures

pub returns : goal.returns
returns c =
    let a = c.args in
    let m = c.number-number in
    let p = c.unwrap_or-position in
    let lies = p.ensures ∙ ap (λ (o : Option ℕ). unwrap_or o 0) c.position.ensures ∙ position_told a.answer in
    let x = c.put_refused-at in
    let y = c.put_elements-2 in
    refused_report a.out.now a.bytes.now a.answer a.n a.w c.requires m.result p.result m.ensures lies x.result x.new.out x.ensures (refused_number a.answer (sym c.if-is_ok.ensures.value)) y.result y.new.out y.ensures

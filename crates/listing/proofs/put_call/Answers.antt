-- The report of the call into the lent bytes is that of the call into zeros.
use Rattle.listing.proofs.Calls.{size_within, size_lent, size_back, size_relent, report_asks, call_reported}
use Rattle.listing.proofs.put_call.Goals as goal

pub slice_bounds-convert-end : goal.slice_bounds-convert-end
slice_bounds-convert-end c =
    let a = c.args in
    let x = c.row_of in
    let y = c.row_of-w in
    size_within a.src.now a.keys.now a.targets.now a.from a.to a.rounding a.range a.work.now a.out.now c.requires x.result y.result x.ensures y.ensures

pub slice_bounds-convert-end-2 : goal.slice_bounds-convert-end-2
slice_bounds-convert-end-2 c =
    let a = c.args in
    let x = c.row_of in
    let y = c.row_of-w in
    size_lent a.src.now a.keys.now a.targets.now a.from a.to a.rounding a.range a.work.now a.out.now c.requires x.result y.result x.ensures y.ensures

pub slice_bounds-put_report-end : goal.slice_bounds-put_report-end
slice_bounds-put_report-end c =
    let a = c.args in
    let x = c.row_of in
    let y = c.row_of-w in
    let z = c.convert-reply in
    size_back a.src.now a.keys.now a.targets.now a.from a.to a.rounding a.range a.work.now a.out.now c.requires x.result y.result x.ensures y.ensures z.result z.new.dst z.ensures z.auto.dst

pub slice_bounds-put_report-end-2 : goal.slice_bounds-put_report-end-2
slice_bounds-put_report-end-2 c =
    let a = c.args in
    let x = c.row_of in
    let y = c.row_of-w in
    let z = c.convert-reply in
    size_relent a.src.now a.keys.now a.targets.now a.from a.to a.rounding a.range a.work.now a.out.now c.requires x.result y.result x.ensures y.ensures z.result z.new.dst z.ensures z.auto.dst

pub put_report-requires : goal.put_report-requires
put_report-requires c =
    let a = c.args in
    let x = c.row_of in
    let y = c.row_of-w in
    let z = c.convert-reply in
    report_asks a.src.now a.keys.now a.targets.now a.from a.to a.rounding a.range a.work.now a.out.now c.requires x.result y.result x.ensures y.ensures z.result z.new.dst z.ensures z.auto.dst

pub returns : goal.returns
returns c =
    let a = c.args in
    let x = c.row_of in
    let y = c.row_of-w in
    let z = c.convert-reply in
    let u = c.put_report in
    call_reported a.src.now a.keys.now a.targets.now a.from a.to a.rounding a.range a.work.now a.out.now c.requires x.result y.result x.ensures y.ensures z.result z.new.dst z.ensures z.auto.dst u.result u.new.out u.ensures

-- A turn ends the run at a refusal or stores its element, and the run ends where all are done.
use Rattle.std.proofs.Common.{◌∙◌, arith}
use Rattle.chunk_element.specs.Settings.{settings_for}
use Rattle.chunk_run.specs.Run.{outcomes}
use Rattle.chunk_run.proofs.Loop.{fit_is, stops, goes_on, unstored, refused_answer_lem}
use Rattle.chunk_run.proofs.run.Goals as goal

pub returns-in_default : goal.returns-in_default
returns-in_default c =
    let a = c.args in
    let l = c.loop-i in
    let u = c.fit_at-fit in
    let S = settings_for a.s a.keys.now a.targets.now in
    let fits = fit_is S a.s.sw a.s.dw a.src.now a.dst.now a.n l.i l.input l.output l.dst l.tally l.last l.invariant c.count_at.new.tally c.count_at.ensures c.loop-i-test.true u.result u.ensures in
    stops S a.s.sw a.s.dw a.src.now a.dst.now a.n l.i l.input l.output l.dst l.tally l.last l.invariant c.count_at.new.tally c.count_at.ensures c.loop-i-test.true u.result u.ensures
    (unstored (outcomes S a.s.sw a.src.now l.i) u.result fits c.in_default.not-Ok) c.refused_at.result
    (c.refused_at.ensures ∙ refused_answer_lem a.s a.keys.now a.targets.now a.src.now a.dst.now a.n c.requires l.i l.input l.output l.dst l.tally l.last l.invariant c.loop-i-test.true u.result fits)
    c.reply.result c.reply.ensures

pub loop-i-preserved : goal.loop-i-preserved
loop-i-preserved c =
    let a = c.args in
    let l = c.loop-i in
    let f = c.in-Ok in
    goes_on (settings_for a.s a.keys.now a.targets.now) a.s.sw a.s.dw a.src.now a.dst.now a.n l.i l.input l.output l.dst l.tally l.last l.invariant c.count_at.new.tally c.count_at.ensures c.loop-i-test.true c.requires.target f.stored f.ensures c.write_le.new.d c.write_le.ensures (omega arith) c.place-last.result c.place-last.ensures

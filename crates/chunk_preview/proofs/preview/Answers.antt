-- A turn is one of a run over the copy, and adds the bytes at which the element differs from the destination.
use Rattle.std.proofs.Common.{ℕ, ◌+◌, ◌*◌, ◌≤◌, ◌∙◌, subst, arith, length}
use Rattle.chunk_element.specs.Settings.{settings_for}
use Rattle.chunk_run.specs.Run.{outcomes}
use Rattle.hamming.proofs.Bytes.{at_most_width}
use Rattle.chunk_run.proofs.Loop.{target_end, unstored, refused_answer_lem}
use Rattle.chunk_preview.proofs.Copy.{starts, at_most_done, ends, stops, goes_on}
use Rattle.chunk_preview.proofs.preview.Goals as goal

pub loop-i-init : goal.loop-i-init
loop-i-init c = let a = c.args in starts (settings_for a.s a.keys.now a.targets.now) a.s.sw a.s.dw a.src.now a.dst.now a.n c.no_tally-tally.result c.no_tally-tally.ensures

-- the bytes that differ lie before the place
pub overflow_add-changed : goal.overflow_add-changed
overflow_add-changed c =
    let a = c.args in
    let l = c.loop-i in
    let S = settings_for a.s a.keys.now a.targets.now in
    let within : l.i * a.s.dw + a.s.dw ≤ length a.dst.now = subst (λ (n : ℕ). l.i * a.s.dw + a.s.dw ≤ n) l.invariant.at.same (target_end a.s a.keys.now a.targets.now a.src.now a.dst.now a.n c.requires l.i (l.i * a.s.sw) (l.i * a.s.dw) l.invariant.copy l.tally l.last l.invariant.at c.loop-i-test.true) in
    let done = at_most_done S a.s.sw a.s.dw a.src.now a.dst.now a.n l.i l.changed l.tally l.last l.invariant in
    record { fits = omega (arith, c.distance_le-changed.ensures, at_most_width a.dst.now (l.i * a.s.dw) a.s.dw c.in-Ok.stored.pattern within, done, within) }

pub returns-in_default : goal.returns-in_default
returns-in_default c =
    let a = c.args in
    let l = c.loop-i in
    let u = c.fit_at-fit in
    let S = settings_for a.s a.keys.now a.targets.now in
    stops S a.s.sw a.s.dw a.src.now a.dst.now a.n l.i l.changed l.tally l.last l.invariant c.count_at.new.tally c.count_at.ensures c.loop-i-test.true
    (unstored (outcomes S a.s.sw a.src.now l.i) u.result u.ensures c.in_default.not-Ok) c.refused_at.result
    (c.refused_at.ensures ∙ refused_answer_lem a.s a.keys.now a.targets.now a.src.now a.dst.now a.n c.requires l.i (l.i * a.s.sw) (l.i * a.s.dw) l.invariant.copy l.tally l.last l.invariant.at c.loop-i-test.true u.result u.ensures)
    c.reply.result c.reply.ensures

pub loop-i-preserved : goal.loop-i-preserved
loop-i-preserved c =
    let a = c.args in
    let l = c.loop-i in
    let f = c.in-Ok in
    let within : l.i * a.s.dw + a.s.dw ≤ length a.dst.now = subst (λ (n : ℕ). l.i * a.s.dw + a.s.dw ≤ n) l.invariant.at.same (target_end a.s a.keys.now a.targets.now a.src.now a.dst.now a.n c.requires l.i (l.i * a.s.sw) (l.i * a.s.dw) l.invariant.copy l.tally l.last l.invariant.at c.loop-i-test.true) in
    goes_on (settings_for a.s a.keys.now a.targets.now) a.s.sw a.s.dw a.src.now a.dst.now a.n l.i l.changed l.tally l.last l.invariant c.count_at.new.tally c.count_at.ensures c.loop-i-test.true c.requires.target f.stored f.ensures (omega arith) within c.distance_le-changed.result c.distance_le-changed.ensures c.place-last.result c.place-last.ensures

pub returns : goal.returns
returns c =
    let a = c.args in
    let l = c.loop-i in
    ends (settings_for a.s a.keys.now a.targets.now) a.s.sw a.s.dw a.src.now a.dst.now a.n l.i l.changed l.tally l.last l.invariant c.count_at-2.new.tally c.count_at-2.ensures c.loop-i-test.false c.reply-2.result c.reply-2.ensures

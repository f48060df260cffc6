-- The checks refuse the call, or the loop starts where they leave it, and each turn keeps what `Turns` says.
use Rattle.std.proofs.Common.{refl, arith}
use Rattle.typed.proofs.Turns.{Elements, refuses_call, starts, ends, countable, turns}
use Rattle.typed.proofs.Pairs.{elements}
use Rattle.typed.proofs.elements.convert.Goals as goal
use Rattle.typed.proofs.elements.convert.Given.{Over}

abbrev pair : (g : Over) → Elements g.row.S.Denot g.row.T.Denot g.row.E.Denot
pair g = elements g.S.Number.CODE g.T.Number.CODE g.S.Number.pattern g.T.Number.pattern g.T.FromPattern.from_pattern g.E.MapEntry.key g.E.MapEntry.target g.met.S.CastTo.laws

pub returns-in-Err : goal.returns-in-Err
returns-in-Err g c =
    let a = c.args in
    refuses_call (pair g) a.src.now a.entries.now a.rounding a.range a.dst.now c.in-Err.refusal c.CODE.result c.CODE.ensures c.in-Err.ensures c.refused.result c.refused.ensures

pub loop-i-init : goal.loop-i-init
loop-i-init g c =
    let a = c.args in
    starts (pair g) a.src.now a.entries.now a.rounding a.range a.dst.now c.in-Ok.modes c.CODE.result c.CODE.ensures c.in-Ok.ensures c.no_tally-tally.result c.no_tally-tally.ensures

pub returns-in_default : goal.returns-in_default
returns-in_default g c =
    let a = c.args in
    let l = c.loop-i in
    (turns (pair g) a.src.now a.entries.now a.rounding a.range a.dst.now c.in-Ok.modes c.CODE.result c.CODE.ensures c.in-Ok.ensures
    l.i l.dst l.tally l.invariant c.loop-i-test.true l.auto.dst
    c.index-src-i.result _ c.lookup.result c.cast-fit.result (c.index-src-i.is, refl, c.lookup.ensures, c.cast-fit.ensures)).ends_there
    (λ b how e. c.in_default.not-Ok _ e) c.outcome-outcome.result c.outcome-outcome.ensures c.refusal.result c.refusal.ensures.answer c.reply.result c.reply.ensures

pub count-requires : goal.count-requires
count-requires g c =
    let a = c.args in
    let l = c.loop-i in
    countable (pair g) a.src.now a.entries.now a.rounding a.range a.dst.now c.in-Ok.modes c.CODE.result c.CODE.ensures c.in-Ok.ensures
    l.i l.dst l.tally l.invariant c.loop-i-test.true l.auto.dst (omega arith)

pub loop-i-preserved : goal.loop-i-preserved
loop-i-preserved g c =
    let a = c.args in
    let l = c.loop-i in
    (turns (pair g) a.src.now a.entries.now a.rounding a.range a.dst.now c.in-Ok.modes c.CODE.result c.CODE.ensures c.in-Ok.ensures
    l.i l.dst l.tally l.invariant c.loop-i-test.true l.auto.dst
    c.index-src-i.result _ c.lookup.result c.cast-fit.result (c.index-src-i.is, refl, c.lookup.ensures, c.cast-fit.ensures)).goes_on
    c.in-Ok-fit.stored.pattern c.in-Ok-fit.stored.fared c.in-Ok-fit.is c.from_pattern.result c.from_pattern.ensures c.count.new.tally c.count.ensures

pub returns : goal.returns
returns g c =
    let a = c.args in
    let l = c.loop-i in
    ends (pair g) a.src.now a.entries.now a.rounding a.range a.dst.now c.in-Ok.modes c.CODE.result c.CODE.ensures c.in-Ok.ensures
    l.i l.dst l.tally (omega arith) l.invariant c.reply-2.result c.reply-2.ensures

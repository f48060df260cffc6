-- The checks refuse the call, or the loop starts where they leave it, and each turn keeps what `Turns` says.
use Rattle.std.proofs.Common.{ℕ, ◌≡◌, ◌^◌, ◌<◌, sym, subst, arith}
use Rattle.patterns.specs.Kind.{bits}
use Rattle.kinds.specs.Table.{kind_of}
use Rattle.typed.proofs.Turns.{Elements, refuses_call, starts, ends, countable, looked_up, turns}
use Rattle.typed.proofs.Pairs.{elements}
use Rattle.typed.proofs.convert_by_pattern.Goals as goal
use Rattle.typed.proofs.convert_by_pattern.Given.{Over}

abbrev pair : (g : Over) → Elements g.row.S.Denot g.row.T.Denot g.row.E.Denot
pair g = elements g.S.Number.CODE g.T.Number.CODE g.S.Number.pattern g.T.Number.pattern g.T.FromPattern.from_pattern g.E.MapEntry.key g.E.MapEntry.target g.met.S.CastPattern.laws

-- an element's pattern is one of its kind
fits : (g : Over) (x : g.row.S.Denot) (p : ℕ) → p ≡ g.S.Number.pattern x → p < 2 ^ bits (kind_of g.S.Number.CODE)
fits g x p e = subst (λ (n : ℕ). n < 2 ^ bits (kind_of g.S.Number.CODE)) (sym e) (g.met.S.CastPattern.laws.source_fits x)

pub cast_pattern-fit-requires : goal.cast_pattern-fit-requires
cast_pattern-fit-requires g c = fits g c.index-src-i.result c.pattern-b.result c.pattern-b.ensures

pub outcome_of_pattern-outcome-requires : goal.outcome_of_pattern-outcome-requires
outcome_of_pattern-outcome-requires g c = fits g c.index-src-i.result c.pattern-b.result c.pattern-b.ensures

pub returns-in-Err : goal.returns-in-Err
returns-in-Err g c =
    let a = c.args in
    refuses_call (pair g) a.src.now a.entries.now a.rounding a.range a.dst.now c.in-Err.refusal c.CODE.result c.CODE.ensures c.in-Err.ensures c.refused.result c.refused.ensures

pub loop-i-init : goal.loop-i-init
loop-i-init g c =
    let a = c.args in
    starts (pair g) a.src.now a.entries.now a.rounding a.range a.dst.now c.in-Ok.modes c.CODE.result c.CODE.ensures c.in-Ok.ensures c.no_tally-tally.result c.no_tally-tally.ensures

pub returns-in_default : goal.returns-in_default
returns-in_default g c =
    let a = c.args in
    let l = c.loop-i in
    (turns (pair g) a.src.now a.entries.now a.rounding a.range a.dst.now c.in-Ok.modes c.CODE.result c.CODE.ensures c.in-Ok.ensures
    l.i l.dst l.tally l.invariant c.loop-i-test.true l.auto.dst
    c.index-src-i.result c.pattern-b.result c.lookup_pattern-found.result c.cast_pattern-fit.result
    (c.index-src-i.is, c.pattern-b.ensures, looked_up (pair g) a.src.now a.entries.now a.rounding a.range c.index-src-i.result c.pattern-b.result c.pattern-b.ensures c.lookup_pattern-found.result c.lookup_pattern-found.ensures, c.cast_pattern-fit.ensures)).ends_there
    (λ b how e. c.in_default.not-Ok _ e) c.outcome_of_pattern-outcome.result c.outcome_of_pattern-outcome.ensures c.refusal.result c.refusal.ensures.answer c.reply.result c.reply.ensures

pub count-requires : goal.count-requires
count-requires g c =
    let a = c.args in
    let l = c.loop-i in
    countable (pair g) a.src.now a.entries.now a.rounding a.range a.dst.now c.in-Ok.modes c.CODE.result c.CODE.ensures c.in-Ok.ensures
    l.i l.dst l.tally l.invariant c.loop-i-test.true l.auto.dst (omega arith)

pub loop-i-preserved : goal.loop-i-preserved
loop-i-preserved g c =
    let a = c.args in
    let l = c.loop-i in
    (turns (pair g) a.src.now a.entries.now a.rounding a.range a.dst.now c.in-Ok.modes c.CODE.result c.CODE.ensures c.in-Ok.ensures
    l.i l.dst l.tally l.invariant c.loop-i-test.true l.auto.dst
    c.index-src-i.result c.pattern-b.result c.lookup_pattern-found.result c.cast_pattern-fit.result
    (c.index-src-i.is, c.pattern-b.ensures, looked_up (pair g) a.src.now a.entries.now a.rounding a.range c.index-src-i.result c.pattern-b.result c.pattern-b.ensures c.lookup_pattern-found.result c.lookup_pattern-found.ensures, c.cast_pattern-fit.ensures)).goes_on
    c.in-Ok-fit.stored.pattern c.in-Ok-fit.stored.fared c.in-Ok-fit.is c.from_pattern.result c.from_pattern.ensures c.count.new.tally c.count.ensures

pub returns : goal.returns
returns g c =
    let a = c.args in
    let l = c.loop-i in
    ends (pair g) a.src.now a.entries.now a.rounding a.range a.dst.now c.in-Ok.modes c.CODE.result c.CODE.ensures c.in-Ok.ensures
    l.i l.dst l.tally (omega arith) l.invariant c.reply-2.result c.reply-2.ensures

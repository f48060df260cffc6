-- A call is refused by a check, or run over all its positions.
use Rattle.std.proofs.Common.{sym, subst}
use Rattle.answers.specs.declared.Reply.{Reply}
use Rattle.cast_spec.specs.Chunk.{inputs}
use Rattle.cast_spec.specs.Contract.{Contract}
use Rattle.chunk.proofs.Calls.{refused_call, run_asks, run_call}
use Rattle.chunk.proofs.convert.Goals as goal

pub run-requires : goal.run-requires
run-requires c =
    let a = c.args in
    run_asks (inputs a.src.now a.dst.now a.keys.now a.targets.now a.from a.to a.rounding a.range) c.check.result c.check.ensures c.in-Ok.call c.in-Ok.is

pub returns-in-Err : goal.returns-in-Err
returns-in-Err c =
    let a = c.args in
    let I = inputs a.src.now a.dst.now a.keys.now a.targets.now a.from a.to a.rounding a.range in
    subst (λ (r : Reply). Contract I r I.destination) (sym c.refused.ensures) (refused_call I c.check.result c.check.ensures c.in-Err.refusal c.in-Err.is)

pub returns-in-Ok : goal.returns-in-Ok
returns-in-Ok c =
    let a = c.args in
    run_call (inputs a.src.now a.dst.now a.keys.now a.targets.now a.from a.to a.rounding a.range) c.check.result c.check.ensures c.in-Ok.call c.in-Ok.is c.run.result c.run.new.dst c.run.ensures

-- A call is refused by a check, or foreseen over all its positions.
use Rattle.std.proofs.Common.{sym, subst}
use Rattle.answers.specs.declared.Reply.{Reply}
use Rattle.cast_spec.specs.Chunk.{inputs}
use Rattle.cast_spec.specs.Preview.{Previewed}
use Rattle.chunk.proofs.Calls.{refused_preview, run_asks, run_preview}
use Rattle.chunk.proofs.preview.Goals as goal

pub preview-requires : goal.preview-requires
preview-requires c =
    let a = c.args in
    run_asks (inputs a.src.now a.dst.now a.keys.now a.targets.now a.from a.to a.rounding a.range) c.check.result c.check.ensures c.in-Ok.call c.in-Ok.is

pub returns-in-Err : goal.returns-in-Err
returns-in-Err c =
    let a = c.args in
    let I = inputs a.src.now a.dst.now a.keys.now a.targets.now a.from a.to a.rounding a.range in
    subst (λ (r : Reply). Previewed I (record { reply = r; changed = 0 })) (sym c.refused.ensures) (refused_preview I c.check.result c.check.ensures c.in-Err.refusal c.in-Err.is)

pub returns-in-Ok : goal.returns-in-Ok
returns-in-Ok c =
    let a = c.args in
    run_preview (inputs a.src.now a.dst.now a.keys.now a.targets.now a.from a.to a.rounding a.range) c.check.result c.check.ensures c.in-Ok.call c.in-Ok.is c.preview.result c.preview.ensures

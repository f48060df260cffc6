-- Whole already, or the count of whole numbers normalized, and where it lies.
use Rattle.std.proofs.Common.{◌*◌, ◌^◌, ◌<◌, ap, subst, sym, ◌∙◌, arith}
use Rattle.grid.specs.Round.{rule_for}
use Rattle.scaled.specs.Scaled.{scaled_of}
use Rattle.whole_numbers.specs.declared.Whole.{Whole}
use Rattle.integral.proofs.WholeFloats.{count_lt, count_times, integral_at}
use Rattle.integral.proofs.integral.Goals as goal

pub normalize-requires : goal.normalize-requires
normalize-requires c = (subst (λ (w : Whole). w.magnitude < 2 ^ 53) (sym c.round_to_whole-whole.ensures) (count_lt _ c.args.x c.requires c.if-x-ge1074.false), omega arith)

pub returns : goal.returns
returns c =
    let a = c.args in
    let r = c.round_to_whole-whole in
    integral_at a.negative a.mode _ c.normalize.result r.result.ternary
    (c.normalize.ensures
    ∙ ap (λ (w : Whole). scaled_of (w.magnitude * 2 ^ 1074)) r.ensures
    ∙ ap scaled_of (count_times (rule_for a.negative a.mode) a.x c.requires c.if-x-ge1074.false))
    (ap (λ (w : Whole). w.ternary) r.ensures)

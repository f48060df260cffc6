-- The sum with the increment, divided, is the step, and the two tests tell where it lies.
use Rattle.std.proofs.Common.{◌+◌, ◌*◌, ◌/◌, ◌^◌}
use Rattle.grid.specs.Round.{rule_for}
use Rattle.rounding.proofs.Increments.{sum_fits, sum_exact, sum_larger, shifted_is}
use Rattle.rounding.proofs.round_shift.Goals as goal

pub overflow_add-kept : goal.overflow_add-kept
overflow_add-kept c =
    let a = c.args in
    record { fits = sum_fits (rule_for a.negative a.mode) c.increment.result a.m a.bits c.requires.positive c.requires.below_64 c.increment.ensures c.requires.fits }

pub returns : goal.returns
returns c =
    let a = c.args in
    let i = c.increment in
    let r = rule_for a.negative a.mode in
    shifted_is a.negative a.mode i.result a.m a.bits c.ternary_of.result c.requires.positive c.requires.below_64 i.ensures
    (c.ternary_of.ensures a.m ((a.m + i.result) / 2 ^ a.bits * 2 ^ a.bits)
    (sum_exact r i.result a.m a.bits c.requires.positive c.requires.below_64 i.ensures)
    (sum_larger r i.result a.m a.bits c.requires.positive c.requires.below_64 i.ensures))

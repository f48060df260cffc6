-- One byte more is summed at its place, and all of them are the number.
use Rattle.std.proofs.Common.{◌+◌}
use Rattle.bytes_le.proofs.Fetches.{all_summed, one_more_summed, sum_fits}
use Rattle.bytes_le.proofs.get_le.Goals as goal

pub overflow_add-v-in-loop-k : goal.overflow_add-v-in-loop-k
overflow_add-v-in-loop-k g c =
    let a = c.args in
    record { fits = sum_fits a.s.now a.at g.row.W c.loop-k.k c.loop-k.v c.loop-k.invariant c.loop-k-test.true c.requires.0 c.requires.1 (c.type_inv.s (a.at + c.loop-k.k)).fits }

pub loop-k-preserved : goal.loop-k-preserved
loop-k-preserved g c =
    let a = c.args in
    one_more_summed a.s.now a.at g.row.W c.loop-k.k c.loop-k.v c.loop-k.invariant c.loop-k-test.true c.requires.0 c.requires.1 (c.type_inv.s (a.at + c.loop-k.k)).fits

pub returns : goal.returns
returns g c = let a = c.args in all_summed a.s.now a.at g.row.W c.loop-k.k c.loop-k.v c.loop-k.invariant c.loop-k-test.false c.requires.1

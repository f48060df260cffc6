-- One byte more is put at its place, and all of them are the number.
use Rattle.store_le.proofs.Stores.{none_stored, all_stored, one_more_stored}
use Rattle.store_le.proofs.put_le.Goals as goal

pub loop-k-init : goal.loop-k-init
loop-k-init g c = let a = c.args in none_stored a.d.now a.at g.row.W a.v

pub loop-k-preserved : goal.loop-k-preserved
loop-k-preserved g c =
    let a = c.args in
    one_more_stored a.d.now a.at g.row.W a.v c.loop-k.k c.loop-k.d c.loop-k.invariant c.loop-k-test.true c.requires.1

pub returns : goal.returns
returns g c = let a = c.args in all_stored a.d.now a.at g.row.W a.v c.loop-k.k c.loop-k.d c.loop-k.invariant c.loop-k-test.false

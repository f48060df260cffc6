-- The bytes so far are put.
use Rattle.store_le.proofs.Stores.{Stored}
use Rattle.store_le.proofs.put_le.Given as goal

abbrev pub invariant-loop-k : goal.invariant-loop-k
invariant-loop-k g l = Stored l.fn.d l.at g.row.W l.v l.k l.d

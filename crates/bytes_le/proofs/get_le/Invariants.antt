-- The bytes so far are summed.
use Rattle.bytes_le.proofs.Fetches.{Summed}
use Rattle.bytes_le.proofs.get_le.Given as goal

abbrev pub invariant-loop-k : goal.invariant-loop-k
invariant-loop-k g l = Summed l.s l.at g.row.W l.k l.v

-- What is found and what is left make the whole distance.
use Rattle.hamming.proofs.Bytes.{Left}
use Rattle.hamming.proofs.distance_le.Given as goal

abbrev pub invariant-loop-k : goal.invariant-loop-k
invariant-loop-k l = Left l.s l.at l.width l.v l.k l.rest l.differing

-- No entry before j matches.
use Rattle.kinds.specs.Row.{float_of}
use Rattle.mapping.proofs.Entries.{Passed}
use Rattle.mapping.proofs.apply_scalar_map_float.Given as goal

abbrev pub invariant-loop-j : goal.invariant-loop-j
invariant-loop-j l = Passed (float_of l.format) l.b l.keys l.targets l.n l.sw l.dw l.j

-- No entry before i matches, whatever the sign.
use Rattle.std.proofs.Common.{◌*◌, Bool}
use Rattle.patterns.specs.Kind.{integer}
use Rattle.mapping.proofs.Entries.{Passed}
use Rattle.mapping.proofs.apply_scalar_map_int.Given as goal

abbrev pub invariant-loop-i : goal.invariant-loop-i
invariant-loop-i l = (signed : Bool) → Passed (integer signed (8 * l.sw)) l.b l.keys l.targets l.n l.sw l.dw l.i

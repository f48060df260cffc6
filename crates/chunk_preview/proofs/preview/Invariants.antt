-- A run over a copy of the destination.
use Rattle.chunk_element.specs.Settings.{settings_for}
use Rattle.chunk_preview.proofs.Copy.{Ahead}
use Rattle.chunk_preview.proofs.preview.Given as goal

abbrev pub invariant-loop-i : goal.invariant-loop-i
invariant-loop-i l = Ahead (settings_for l.s l.keys l.targets) l.s.sw l.s.dw l.src l.dst l.n l.i l.changed l.tally l.last

-- What is done and what is left make the whole run.
use Rattle.chunk_element.specs.Settings.{settings_for}
use Rattle.chunk_run.proofs.Loop.{At}
use Rattle.chunk_run.proofs.run.Given as goal

abbrev pub invariant-loop-i : goal.invariant-loop-i
invariant-loop-i l = At (settings_for l.s l.keys l.targets) l.s.sw l.s.dw l.src l.fn.dst l.n l.i l.input l.output l.dst l.tally l.last

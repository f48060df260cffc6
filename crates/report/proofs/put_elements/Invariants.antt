-- The lines passed are written.
use Rattle.report.proofs.Lines.{LinesAt}
use Rattle.report.proofs.put_elements.Given as goal

abbrev pub invariant-loop-i : goal.invariant-loop-i
invariant-loop-i l = LinesAt l.fn.out l.at l.bytes l.w l.k l.i l.to l.out

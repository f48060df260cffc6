-- The row gives both ends.
use mathlib.Core.Logic.{inl, inr}
use Rattle.integer_range.proofs.Range.{end_is}
use Rattle.integer_range.proofs.end_magnitude.Goals as goal
use Rattle.integer_range.proofs.end_magnitude.Goals.{then-to, else-to}

pub returns : goal.returns
returns c =
    let a = c.args in
    let j = c.if-to in
    elim j.branch [
      | then-to w ↦ end_is a.to c.requires a.negative j.lowest c.choose.result (inl (w.if-to.true, w.lowest-is)) c.choose.ensures
      | else-to w ↦ end_is a.to c.requires a.negative j.lowest c.choose.result (inr (w.if-to.false, w.lowest-is)) c.choose.ensures
    ]

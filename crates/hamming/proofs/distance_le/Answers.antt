-- The byte that was looked at differs, or it does not.
use Rattle.std.proofs.Common.{◌+◌, ◌/◌, true, false, sym, subst, eq-eqb, ne_eqb}
use Rattle.hamming.proofs.Bytes.{Left, one_more}
use Rattle.hamming.proofs.distance_le.Goals as goal
use Rattle.hamming.proofs.distance_le.Goals.{then-s-at, else-s-at}

pub loop-k-preserved : goal.loop-k-preserved
loop-k-preserved c =
    let a = c.args in
    let l = c.loop-k in
    let turn = one_more a.s.now a.at a.width a.v l.k l.rest l.differing l.invariant c.loop-k-test.true c.requires in
    elim c.if-s-at.branch [
      | then-s-at w ↦ subst (Left a.s.now a.at a.width a.v (l.k + 1) (l.rest / 256)) (sym w.differing-is) (turn false (ne_eqb _ _ w.if-s-at.true))
      | else-s-at w ↦ subst (Left a.s.now a.at a.width a.v (l.k + 1) (l.rest / 256)) (sym w.differing-is) (turn true (eq-eqb _ _ w.if-s-at.false))
    ]

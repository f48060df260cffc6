-- The digits passed stand before the end.
use Rattle.text.proofs.Numbers.{DigitsAt}
use Rattle.text.proofs.put_digits.Given as goal

abbrev pub invariant-loop-place : goal.invariant-loop-place
invariant-loop-place l = DigitsAt l.fn.out l.at l.base l.k l.v l.place l.rest l.out

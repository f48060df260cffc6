-- Half of 2^bits tells the sign, and the differences are wrapped ones.
use Rattle.std.proofs.Common.{inl, inr, arith}
use Rattle.integers.proofs.Magnitudes.{half_is, magnitude_is}
use Rattle.integers.proofs.int_magnitude.Goals as goal
use Rattle.integers.proofs.int_magnitude.Goals.{then-signed, else-signed}

pub returns : goal.returns
returns c =
    let opposite = c.wrapping_sub_u64-opposite in
    let above = c.wrapping_sub_u64 in
    let a = c.args in
    magnitude_is a.bits c.requires.positive c.requires.at_most_64 a.signed a.b _ above.result opposite.result c.if-signed.negative c.choose.result (half_is a.bits c.requires.positive c.requires.at_most_64) c.requires.fits (omega arith) (omega arith) above.ensures.value opposite.ensures.value
    (elim c.if-signed.branch [ then-signed w ↦ inl (w.if-signed.true, w.negative-is) | else-signed w ↦ inr (w.if-signed.false, w.negative-is) ])
    c.choose.ensures

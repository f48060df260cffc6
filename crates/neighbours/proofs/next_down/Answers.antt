-- The exclusive or with the sign's bit gives the number of the other sign.
use Rattle.std.proofs.Common.{ap, ◌∙◌, arith}
use lib.Bits.{bit_xor}
use Rattle.neighbours.specs.Next.{next_up, next_down}
use Rattle.neighbours.proofs.Mirror.{turned}
use Rattle.neighbours.proofs.next_down.Goals as goal

pub returns : goal.returns
returns g c =
    let f = g.B.FloatBits in
    let b = c.to_u64.ensures in
    let u = c.to_u64-2.ensures in
    c.from_u64-2.ensures
    ∙ ap (bit_xor c.to_u64-2.result) c.sign-sign.ensures.0
    ∙ turned f.PRECISION f.EXPONENT_BITS c.to_u64.result c.to_u64-2.result (omega (arith, g.met.B.FloatBits.format.two)) b.1 u.1
    (u.0 ∙ c.next_up-up.ensures ∙ ap (next_up f.PRECISION f.EXPONENT_BITS) (c.from_u64.ensures ∙ ap (bit_xor c.to_u64.result) c.sign-sign.ensures.0))
    ∙ ap (next_down f.PRECISION f.EXPONENT_BITS) b.0

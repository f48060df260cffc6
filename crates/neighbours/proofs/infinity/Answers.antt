-- No bit is shifted out.
use Rattle.std.proofs.Common.{arith}
use Rattle.neighbours.proofs.Successor.{infinity_made}
use Rattle.neighbours.proofs.infinity.Goals as goal

pub returns : goal.returns
returns g c =
    let f = g.met.B.FloatBits.format in
    rw (c.EXPONENT_BITS.ensures, c.PRECISION.ensures) (infinity_made g.B.FloatBits.PRECISION g.B.FloatBits.EXPONENT_BITS f.two (omega (arith, f.at_most_53, f.at_most_11)))

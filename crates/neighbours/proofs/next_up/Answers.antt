-- The mask takes the sign's bit away.
use Rattle.std.proofs.Common.{◌∙◌, arith}
use Rattle.neighbours.proofs.Successor.{masked, sign_fits}
use Rattle.neighbours.proofs.next_up.Goals as goal

pub pattern_above-requires : goal.pattern_above-requires
pattern_above-requires g c =
    let f = g.met.B.FloatBits.format in
    sign_fits g.B.FloatBits.PRECISION g.B.FloatBits.EXPONENT_BITS f.two (omega (arith, f.at_most_53, f.at_most_11)) c.to_u64.result c.sign.result c.to_u64.ensures.1 c.sign.ensures.0

pub returns : goal.returns
returns g c =
    c.from_u64.ensures
    ∙ c.pattern_above.ensures.0
    ∙ rw (c.infinity.ensures, c.sign.ensures.0, c.to_u64.ensures.0) (masked g.B.FloatBits.PRECISION g.B.FloatBits.EXPONENT_BITS (g.B.FloatBits.pattern c.args.b))

-- The places are the format's own.
use Rattle.std.proofs.Common.{sym, arith}
use Rattle.float_fields.proofs.Fields.{parts_is}
use Rattle.float_fields.proofs.bits.FloatBits.parts.Goals as goal

pub returns : goal.returns
returns g c =
    let f = g.met.Self.FloatBits.format in
    let b = c.to_u64-bits.ensures in
    rw (c.mask.ensures, c.mask-2.ensures, b.0, c.PRECISION-place.ensures, c.EXPONENT_BITS-width.ensures)
    (parts_is g.Self.FloatBits.PRECISION g.Self.FloatBits.EXPONENT_BITS (g.Self.FloatBits.pattern c.args.self) (omega (arith, f.two)) (rw (sym b.0) b.1))

-- What was read is written, so its form is canonical.
use Rattle.std.proofs.Common.{ℕ, ◌+◌, ◌^◌, ◌<◌, subst}
use Rattle.patterns.specs.Kind.{binary}
use Rattle.floats.proofs.Values.{format_formed, read_canonical}
use Rattle.leaves.proofs.put_widened.Goals as goal

pub write_f64-widened-requires : goal.write_f64-widened-requires
write_f64-widened-requires g c =
    let f = g.B.FloatBits in
    let b = c.to_u64-bits.ensures in
    read_canonical (binary f.PRECISION f.EXPONENT_BITS f.SPACING) (f.pattern c.args.b)
    (format_formed f.PRECISION f.EXPONENT_BITS f.SPACING g.met.B.FloatBits.format (f.pattern c.args.b) (subst (λ (z : ℕ). z < 2 ^ (f.EXPONENT_BITS + f.PRECISION)) b.0 b.1))
    c.read.result c.read.ensures

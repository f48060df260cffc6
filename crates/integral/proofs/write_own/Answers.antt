-- f64 has the bits of the magnitude itself, and a narrower format those of its pick, which it is.
use Rattle.std.proofs.Common.{◌*◌, ◌^◌, ℕ, sym, ap, ap₂, ◌∙◌}
use Rattle.narrowing.specs.Format.{narrowed}
use Rattle.integral.specs.Whole.{exactly}
use Rattle.integral.proofs.WholeFloats.{written_in_f64, written_narrower}
use Rattle.integral.proofs.write_own.Goals as goal

pub returns-then-PRECISION-eq53 : goal.returns-then-PRECISION-eq53
returns-then-PRECISION-eq53 g c =
    let f = g.B.FloatBits in
    ap exactly c.finite_bits.ensures ∙ written_in_f64 f.PRECISION f.EXPONENT_BITS f.SPACING g.met.B.FloatBits.format (sym c.PRECISION.ensures ∙ c.if-PRECISION-eq53.true) c.args.x c.requires.0 c.requires.1

pub returns : goal.returns
returns g c =
    let f = g.B.FloatBits in
    let a = c.args in
    c.narrow_magnitude.ensures
    ∙ ap₂ (λ (p s : ℕ). narrowed p s a.negative a.mode (a.x.significand * 2 ^ a.x.exponent)) c.PRECISION-2.ensures c.SPACING.ensures
    ∙ written_narrower f.PRECISION f.SPACING g.met.B.FloatBits.format.two a.negative a.mode _ c.requires.1

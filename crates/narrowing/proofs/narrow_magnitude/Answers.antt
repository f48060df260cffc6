-- The bits where the narrowed number is normal, and where it is not.
use Rattle.std.proofs.Common.{◌∙◌}
use Rattle.narrowing.proofs.Magnitudes.{normal_rounded, low_rounded}
use Rattle.narrowing.proofs.narrow_magnitude.Goals as goal

pub returns-then-base-exponent : goal.returns-then-base-exponent
returns-then-base-exponent c =
    let a = c.args in
    c.round_shift.ensures ∙ normal_rounded a.negative a.mode a.x.significand a.x.exponent a.p a.s c.requires.0 c.requires.1 c.if-base-exponent.true

pub returns : goal.returns
returns c =
    let a = c.args in
    let d = c.at_most_63-bits in
    c.round_shift-2.ensures ∙ low_rounded a.negative a.mode a.x.significand a.x.exponent a.p a.s c.requires.0 c.requires.1 c.if-base-exponent.false d.result d.ensures

-- Below an infinity's bits, and by the range choice from there on.
use Rattle.std.proofs.Common.{arith, ℕ, ◌+◌, ◌≤◌, ◌<◌, ap₂, subst, ◌∙◌}
use Rattle.float_fields.proofs.Signs.{signed_sum}
use Rattle.float_range.proofs.Fits.{below_fits, bits_fit, overrun_fit_lem}
use Rattle.float_range.proofs.fit_bits.Goals as goal
use Rattle.answers.specs.Outcome.{fit_as}

pub overflow_add-result : goal.overflow_add-result
overflow_add-result c =
    let s = c.sign_bit in
    record { fits = below_fits c.args.p c.args.w c.requires c.args.negative s.result c.args.bits s.ensures (omega (arith, c.infinity_bits.ensures)) }

pub returns-then-bits-infinity_bits : goal.returns-then-bits-infinity_bits
returns-then-bits-infinity_bits c =
    let a = c.args in
    let s = c.sign_bit in
    ap₂ fit_as (signed_sum (a.w + a.p) a.negative s.result a.bits s.ensures) c.by_pick.ensures
    ∙ bits_fit a.p a.w a.negative a.range a.bits a.ternary (subst (λ (z : ℕ). a.bits < z) c.infinity_bits.ensures c.if-bits-infinity_bits.true)

pub returns : goal.returns
returns c =
    let a = c.args in
    c.overrun.ensures ∙ overrun_fit_lem a.p a.w a.negative a.range a.bits a.ternary (subst (λ (z : ℕ). z ≤ a.bits) c.infinity_bits.ensures c.if-bits-infinity_bits.false)

-- The rebiased bits below the range's end, and an overrun from there on.
use Rattle.std.proofs.Common.{ℕ, ◌+◌, ◌≤◌, ◌<◌, ap, ap₂, subst, ◌∙◌, arith}
use Rattle.patterns.specs.Float.{inf_bits}
use Rattle.patterns.specs.Pattern.{with_sign}
use Rattle.float_fields.proofs.Signs.{signed_sum}
use Rattle.float_range.proofs.Fits.{below_fits, bits_fit, overrun_fit_lem}
use Rattle.rebiasing.specs.Rebiased.{rebiased}
use Rattle.rebiasing.proofs.Past.{below_past, from_past}
use Rattle.rebiasing.proofs.fit_rebiased.Goals as goal
use Rattle.answers.specs.Outcome.{fit_as}

-- what is stored lies below an infinity's bits
pub overflow_add-result : goal.overflow_add-result
overflow_add-result c =
    let a = c.args in
    let s = c.sign_bit in
    let below : rebiased a.p a.s a.bits < inf_bits a.p a.w = below_past a.p a.w a.s a.bits c.requires.1 c.requires.2 (subst (λ (z : ℕ). a.bits < z) c.first_past.ensures c.if-bits-first_past.true) in
    record { fits = below_fits a.p a.w c.requires.1 a.negative s.result c.rebias.result s.ensures (omega (arith, c.rebias.ensures, below)) }

pub returns-then-bits-first_past : goal.returns-then-bits-first_past
returns-then-bits-first_past c =
    let a = c.args in
    let s = c.sign_bit in
    let below : rebiased a.p a.s a.bits < inf_bits a.p a.w = below_past a.p a.w a.s a.bits c.requires.1 c.requires.2 (subst (λ (z : ℕ). a.bits < z) c.first_past.ensures c.if-bits-first_past.true) in
    ap₂ fit_as (signed_sum (a.w + a.p) a.negative s.result _ s.ensures ∙ ap (with_sign (a.w + a.p) a.negative) c.rebias.ensures) c.by_pick.ensures
    ∙ bits_fit a.p a.w a.negative a.range (rebiased a.p a.s a.bits) a.ternary below

pub returns : goal.returns
returns c =
    let a = c.args in
    c.overrun.ensures
    ∙ overrun_fit_lem a.p a.w a.negative a.range (rebiased a.p a.s a.bits) a.ternary
    (from_past a.p a.w a.s a.bits c.requires.1 c.requires.2 (subst (λ (z : ℕ). z ≤ a.bits) c.first_past.ensures c.if-bits-first_past.false))

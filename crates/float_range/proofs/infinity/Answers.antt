-- The sign's bit over an infinity's bits.
use Rattle.std.proofs.Common.{arith, ap, ◌∙◌, ◌+◌}
use Rattle.patterns.specs.Pattern.{with_sign}
use Rattle.float_fields.proofs.Signs.{signed_sum}
use Rattle.float_range.proofs.Fits.{below_fits}
use Rattle.float_range.proofs.infinity.Goals as goal

pub overflow_add-result : goal.overflow_add-result
overflow_add-result c =
    let s = c.sign_bit in
    let i = c.infinity_bits in
    record { fits = below_fits c.args.p c.args.w c.requires c.args.negative s.result i.result s.ensures (omega (arith, i.ensures)) }

pub returns : goal.returns
returns c =
    let a = c.args in
    let s = c.sign_bit in
    let i = c.infinity_bits in
    signed_sum (a.w + a.p) a.negative s.result i.result s.ensures ∙ ap (with_sign (a.w + a.p) a.negative) i.ensures

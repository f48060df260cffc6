-- No shift and no sum loses a bit.
use Rattle.std.proofs.Common.{◌≡◌, ℕ, ◌+◌, ◌-◌, ◌*◌, ◌%◌, ◌^◌, ◌<◌, ap, ◌∙◌, mod-eq_of_lt, arith, pow_mono}
use Rattle.patterns.proofs.Shifts.{one_shifted}
use Rattle.float_range.specs.Range.{FormatBits}
use Rattle.narrowing.specs.Format.{Narrower}
use Rattle.rebiasing.specs.Rebiased.{past_bits}
use Rattle.rebiasing.proofs.first_past.Goals as goal

module _ (p w s : ℕ) (narrower : Narrower p s) (format : FormatBits p w) where
  -- the start and a field of ones are a field of 12 bits
  field_lt : s - (53 - p) + (1 * 2 ^ w % 2 ^ 64 - 1) < 2 ^ 12
  field_lt = omega (arith, one_shifted w (omega (arith, format.at_most_11)), pow_mono {i = w} {j = 11} (omega (arith, format.at_most_11)), narrower.within)

  shifted : (s - (53 - p) + (1 * 2 ^ w % 2 ^ 64 - 1)) * 2 ^ 52 % 2 ^ 64 ≡ past_bits p w s
  shifted = mod-eq_of_lt (omega (arith, field_lt)) ∙ ap (λ (z : ℕ). (s - (53 - p) + (z - 1)) * 2 ^ 52) (one_shifted w (omega (arith, format.at_most_11)))

pub returns : goal.returns
returns c = shifted c.args.p c.args.w c.args.s c.requires.0 c.requires.1

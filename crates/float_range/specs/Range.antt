-- Internal: the bits below a sign in a float kind, stored, clamped or refused.
use Rattle.std.specs.Prelude.{Bool, cond, ℕ, ◌+◌, ◌≤◌, ◌<◌, ltb}
use Rattle.grid.specs.declared.Ternary.{Ternary}
use Rattle.patterns.specs.Float.{inf_bits}
use Rattle.patterns.specs.Pattern.{infinity, with_sign}
use Rattle.counts.specs.Counts.{by_pick}
use Rattle.counts.specs.declared.Fared.TheVariants.{Clamped}
use Rattle.codes.specs.declared.OutOfRangeMode.{OutOfRangeMode}
use Rattle.codes.specs.declared.OutOfRangeMode.TheVariants.{None, Clamp, Wrap}
use Rattle.answers.specs.Outcome.{Fit, fit_as}
use Rattle.answers.specs.declared.ConversionError.TheVariants.{OutOfRange}
use Rattle.std.specs.Prelude.{Err}

-- p significant bits, fewer than f64 has, and w bits of exponent field, from 1 to 11
pub record FormatBits (p w : ℕ) : Type 0 where
  pub two : 2 ≤ p
  pub fewer : p < 53
  pub positive : 0 < w
  pub at_most_11 : w < 12

-- bits that reach an infinity's, by the range choice; a call that asks for wrap to a float is refused before its elements, and the last line makes this total
abbrev pub overrun_fit : ℕ → ℕ → Bool → OutOfRangeMode → Fit
overrun_fit p w neg None = Err OutOfRange
overrun_fit p w neg Clamp = fit_as (infinity p w neg) Clamped
overrun_fit p w neg Wrap = Err OutOfRange

-- the bits below a sign in a float kind, of a pick that lies where t says: those of an infinity or more lie past the range
abbrev pub fit_bits : ℕ → ℕ → Bool → OutOfRangeMode → ℕ → Ternary → Fit
fit_bits p w neg range b t = cond (ltb b (inf_bits p w)) (fit_as (with_sign (w + p) neg b) (by_pick t)) (overrun_fit p w neg range)

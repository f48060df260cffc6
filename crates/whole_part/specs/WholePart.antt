-- To be believed: an f64's whole part in an integer kind.
use Rattle.std.specs.Prelude.{false, ℕ}
use Rattle.grid.specs.Grid.{whole}
use Rattle.grid.specs.Round.{pick}
use Rattle.grid.specs.declared.RoundingMode.TheVariants.{TowardsZero}
use Rattle.patterns.specs.Kind.{integer, f64}
use Rattle.patterns.specs.Value.{Value, nan, inf, num, value_of}
use Rattle.patterns.specs.Pattern.{pattern_of}

-- the n lowest bits of a number's whole part; 0 where there is no number
abbrev pub wrapped_from : ℕ → Value → ℕ
wrapped_from n (num x) = pattern_of (integer false n) false (pick (whole 1074) TowardsZero x)
wrapped_from n (inf neg) = 0
wrapped_from n nan = 0

abbrev pub wrapped_of : ℕ → ℕ → ℕ
wrapped_of n b = wrapped_from n (value_of f64 b)

-- To be believed: a float rounded to a whole number.
use Rattle.std.specs.Prelude.{ℕ}
use Rattle.grid.specs.Grid.{whole}
use Rattle.grid.specs.Round.{pick}
use Rattle.grid.specs.Ternary.{ternary_of}
use Rattle.grid.specs.declared.Rounded.{Rounded}
use Rattle.grid.specs.declared.RoundingMode.{RoundingMode}
use Rattle.grid.specs.declared.Ternary.TheVariants.{Exact}
use Rattle.patterns.specs.Kind.{Kind}
use Rattle.patterns.specs.Value.{Value, nan, inf, num, negative, value_of}
use Rattle.patterns.specs.Pattern.{pattern_of}

-- "Rounding to a whole number": the pattern of the pick on the whole numbers, of the element's sign, and where it lies. A NaN and an infinity stay.
abbrev pub rounded_from : Kind → RoundingMode → ℕ → Value → Rounded
rounded_from k r b (num x) = let y = pick (whole 1074) r x in record { bits = pattern_of k (negative k b) y; ternary = ternary_of x y }
rounded_from k r b (inf neg) = record { bits = b; ternary = Exact }
rounded_from k r b nan = record { bits = b; ternary = Exact }

abbrev pub rounded_of : Kind → RoundingMode → ℕ → Rounded
rounded_of k r b = rounded_from k r b (value_of k b)

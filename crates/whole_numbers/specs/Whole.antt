-- Internal: what rounding to a whole number returns.
use Rattle.std.specs.Prelude.{Bool, ℕ, ◌%◌, ◌^◌, leb}
use Rattle.grid.specs.Grid.{whole}
use Rattle.grid.specs.Round.{rule_for}
use Rattle.grid.specs.Ternary.{ternary_for}
use Rattle.grid.specs.declared.RoundingMode.{RoundingMode}
use Rattle.rounding.specs.Rounding.{units_of}
use Rattle.whole_numbers.specs.declared.Whole.{Whole}

-- the pick of a magnitude n on the whole numbers, as a program has it: so many of them, and where it lies
abbrev pub whole_of : Bool → RoundingMode → ℕ → Whole
whole_of neg r n = let N = units_of 1074 (rule_for neg r) n in record { magnitude = N % 2 ^ 64; exceeds = leb (2 ^ 64) N; ternary = ternary_for (whole 1074) neg r n }

-- Internal: an integer rounded once to a float's precision, by the bits of the pick as an f64.
use Rattle.std.specs.Prelude.{Bool, ℕ, ◌*◌, ◌^◌}
use Rattle.grid.specs.Grid.{float}
use Rattle.grid.specs.Round.{pick_mag, rule_for}
use Rattle.grid.specs.Ternary.{ternary_for}
use Rattle.grid.specs.declared.RoundingMode.{RoundingMode}
use Rattle.grid.specs.declared.Rounded.{Rounded}
use Rattle.patterns.specs.Pattern.{mag_bits}

-- the magnitude n at the precision p: the bits below the sign of the pick as an f64, and where it lies
abbrev pub rounded_bits : ℕ → Bool → RoundingMode → ℕ → Rounded
rounded_bits p neg r n = record { bits = mag_bits 53 0 (pick_mag (float p 0) (rule_for neg r) n * 2 ^ 1074); ternary = ternary_for (float p 0) neg r n }

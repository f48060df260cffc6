-- Internal: a finite magnitude rounded to a whole number, as a float has it.
use Rattle.std.specs.Prelude.{Bool, ℕ}
use Rattle.grid.specs.Grid.{whole}
use Rattle.grid.specs.Round.{pick_mag, rule_for}
use Rattle.grid.specs.Ternary.{ternary_for}
use Rattle.grid.specs.declared.RoundingMode.{RoundingMode}
use Rattle.grid.specs.declared.Rounded.{Rounded}
use Rattle.grid.specs.declared.Ternary.TheVariants.{Exact}
use Rattle.scaled.specs.Scaled.{scaled_of}
use Rattle.integral.specs.declared.WholeMagnitude.{WholeMagnitude}

-- the pick of a magnitude n, and where it lies
abbrev pub integral_of : Bool → RoundingMode → ℕ → WholeMagnitude
integral_of neg r n = record { magnitude = scaled_of (pick_mag (whole 1074) (rule_for neg r) n); ternary = ternary_for (whole 1074) neg r n }

-- bits that are written as they are
abbrev pub exactly : ℕ → Rounded
exactly b = record { bits = b; ternary = Exact }

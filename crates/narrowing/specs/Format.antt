-- Internal: the formats that are narrower than f64.
use Rattle.std.specs.Prelude.{Bool, ℕ, ◌-◌, ◌≤◌, ◌<◌}
use Rattle.grid.specs.Grid.{float}
use Rattle.grid.specs.Round.{pick_mag, rule_for}
use Rattle.grid.specs.Ternary.{ternary_for}
use Rattle.grid.specs.declared.RoundingMode.{RoundingMode}
use Rattle.grid.specs.declared.Rounded.{Rounded}
use Rattle.patterns.specs.Pattern.{mag_bits}

-- p significant bits and the smallest spacing 2^s, which begins above the exponents that f64 has no normal numbers for
pub record Narrower (p s : ℕ) : Type 0 where
  pub two : 2 ≤ p
  pub fewer : p < 53
  pub coarser : 53 - p < s
  pub within : s < 2046

-- the bits below the sign of a magnitude n in such a format, and where they lie
abbrev pub narrowed : ℕ → ℕ → Bool → RoundingMode → ℕ → Rounded
narrowed p s neg r n = record { bits = mag_bits p s (pick_mag (float p s) (rule_for neg r) n); ternary = ternary_for (float p s) neg r n }

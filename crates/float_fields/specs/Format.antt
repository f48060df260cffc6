-- Internal: the float formats that the patterns of 16, 32 and 64 bits are of.
use Rattle.std.specs.Prelude.{◌≡◌, ℕ, ◌-◌, ◌≤◌, ◌<◌, ◌⊎◌}
use Rattle.grid.specs.Grid.{OnMag, whole}
use Rattle.patterns.specs.Float.{bits_mag, inf_bits}

-- f64, or a format of fewer significant bits p with w bits of exponent field and the smallest spacing 2^s, whose numbers are numbers of f64
pub record Format (p w s : ℕ) : Type 0 where
  pub two : 2 ≤ p
  pub at_most_53 : p ≤ 53
  pub positive : 0 < w
  pub at_most_11 : w ≤ 11
  pub fine : s ≤ 1074
  pub narrower_or_f64 : ((p < 53) × (53 - p < s)) ⊎ ((p ≡ 53) × (w ≡ 11) × (s ≡ 0))
  pub within_f64 : bits_mag p s (inf_bits p w - 1) ≤ bits_mag 53 0 (inf_bits 53 11 - 1)
  pub whole_top : OnMag (whole 1074) (bits_mag p s (inf_bits p w - 1))

-- Internal: an integer rounded once to a float's precision: "The kept part plus one unit is added in f64 and is exact, so a carry may reach 2^64."
use Rattle.std.specs.Prelude.{ℕ, ◌≤◌, Bool, false, nat_lt, Float}
use Rattle.std.specs.Float.Ieee.Exact.{HasValue}
use Rattle.grid.specs.Round.{step}
use Rattle.grid.specs.declared.RoundingMode.{RoundingMode}

-- "for at most 53 significant bits": a precision that has even and odd numbers, and that an f64 has
pub record Precision (p : ℕ) : Type 0 where
  pub two : 2 ≤ p
  pub at_most_53 : p ≤ 53

-- the float x is the number n: nothing is lost
pub record Exactly (n : ℕ) (x : Float) : Type 0 where
  pub value : HasValue x false n 1

-- q units and a rest are rounded to more than q units
abbrev pub steps_up : RoundingMode → ℕ → ℕ → ℕ → Bool
steps_up r q rest unit = nat_lt q (step r q rest unit)

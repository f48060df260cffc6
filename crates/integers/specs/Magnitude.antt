-- Internal: an integer kind's pattern by sign and magnitude: "one element form (integer sign and magnitude, or float)".
use Rattle.std.specs.Prelude.{ℕ, ◌-◌, ◌^◌, ◌<◌, ◌≤◌, false, cond}
use Rattle.patterns.specs.Kind.{Kind, integer, binary}
use Rattle.patterns.specs.Value.{negative}
use Rattle.integers.specs.declared.Integer.{Integer}

-- a pattern of n bits, at most 64
pub record IntegerPattern (b n : ℕ) : Type 0 where
  pub positive : 0 < n
  pub at_most_64 : n ≤ 64
  pub fits : b < 2 ^ n

-- a pattern below zero lies 2^n above its number; a float kind has no such pair, and 0 stands there
unfoldable pub magnitude_of : Kind → ℕ → Integer
magnitude_of (integer s n) b = record { negative = negative (integer s n) b; magnitude = cond (negative (integer s n) b) (2 ^ n - b) b }
magnitude_of (binary p w s) b = record { negative = false; magnitude = 0 }

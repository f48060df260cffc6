-- Internal: what the rounding functions ask and return.
use Rattle.std.specs.Prelude.{Bool, ℕ, ◌+◌, ◌-◌, ◌*◌, ◌/◌, ◌%◌, ◌^◌, ◌≤◌, ◌<◌}
use Rattle.grid.specs.Grid.{whole}
use Rattle.grid.specs.Round.{pick_mag, rule_for, signed, step}
use Rattle.grid.specs.Ternary.{ternary_of}
use Rattle.grid.specs.declared.RoundingMode.{RoundingMode}
use Rattle.grid.specs.declared.RoundingMode.TheVariants.{NearestEven, TowardsZero, TowardsPositive, TowardsNegative, NearestAway}
use Rattle.grid.specs.declared.Rounded.{Rounded}

-- what is added to q units of h + 1 and a rest, so that the quotient is the step
abbrev pub increment_of : RoundingMode → ℕ → ℕ → ℕ
increment_of NearestEven q h = h / 2 + q % 2
increment_of TowardsZero q h = 0
increment_of TowardsPositive q h = h
increment_of TowardsNegative q h = 0
increment_of NearestAway q h = h - h / 2

-- the lowest j of the 64 bits of m can be dropped: no increment wraps
pub record Droppable (m j : ℕ) : Type 0 where
  pub positive : 0 < j
  pub below_64 : j < 64
  pub fits : m + 2 ^ j ≤ 2 ^ 64

-- how many times 2^K the pick on the multiples of 2^K is, of a magnitude n
abbrev pub units_of : ℕ → RoundingMode → ℕ → ℕ
units_of K r n = pick_mag (whole K) r n / 2 ^ K

-- a magnitude m in units of 2^j by the rule, and where that many units lie
abbrev pub shifted : Bool → RoundingMode → ℕ → ℕ → Rounded
shifted neg r m j = let q = step (rule_for neg r) (m / 2 ^ j) (m % 2 ^ j) (2 ^ j) in record { bits = q; ternary = ternary_of (signed neg m) (signed neg (q * 2 ^ j)) }

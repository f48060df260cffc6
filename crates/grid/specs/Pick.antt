-- To be believed: what it is to be the pick of a rounding rule: the meaning of rounding, with no algorithm in it.
use Rattle.std.specs.Prelude.{◌≡◌, ◌≢◌, ℕ, ◌≤◌, ◌<◌, ℤ, pos, nat_abs, ◌-ℤ◌, ◌≤ℤ◌, ◌<ℤ◌}
use Rattle.grid.specs.Grid.{Grid, OnGrid, EvenOn}
use Rattle.grid.specs.declared.RoundingMode.{RoundingMode}
use Rattle.grid.specs.declared.RoundingMode.TheVariants.{NearestEven, TowardsZero, TowardsPositive, TowardsNegative, NearestAway}

unfoldable pub dist : ℤ → ℤ → ℕ
dist x y = nat_abs (x -ℤ y)

-- "Towards-zero names the side where zero lies, towards-positive the side above, towards-negative the side below."
abbrev pub Side : RoundingMode → ℤ → ℤ → Type 0
Side NearestEven x y = Unit {0}
Side TowardsZero x y = (pos 0 ≤ℤ x → y ≤ℤ x) × (x ≤ℤ pos 0 → x ≤ℤ y)
Side TowardsPositive x y = x ≤ℤ y
Side TowardsNegative x y = y ≤ℤ x
Side NearestAway x y = Unit {0}

abbrev pub IsNearest : RoundingMode → Type 0
IsNearest NearestEven = Unit {0}
IsNearest TowardsZero = ⊥
IsNearest TowardsPositive = ⊥
IsNearest TowardsNegative = ⊥
IsNearest NearestAway = Unit {0}

-- of the equally far y and z the rule takes y: "nearest-even takes the even one, nearest-away the outer"
abbrev pub Preferred : Grid → RoundingMode → ℤ → ℤ → Type 0
Preferred g NearestEven y z = EvenOn g y × (EvenOn g z → ⊥)
Preferred g TowardsZero y z = Unit {0}
Preferred g TowardsPositive y z = Unit {0}
Preferred g TowardsNegative y z = Unit {0}
Preferred g NearestAway y z = nat_abs z < nat_abs y

-- "Rounding picks the element itself if it is on the grid; else a neighbour, no grid number strictly between, on the side a directed
-- rule names; under a nearest rule every other grid number is at least as far, and a halfway element goes to the even or the outer one."
pub record IsPick (g : Grid) (r : RoundingMode) (x y : ℤ) : Type 0 where
  pub on : OnGrid g y
  pub itself : OnGrid g x → y ≡ x
  pub none_above : (z : ℤ) → OnGrid g z → x <ℤ z → z <ℤ y → ⊥
  pub none_below : (z : ℤ) → OnGrid g z → y <ℤ z → z <ℤ x → ⊥
  pub side : Side r x y
  pub near : IsNearest r → (z : ℤ) → OnGrid g z → dist x y ≤ dist x z
  pub halfway : (z : ℤ) → OnGrid g z → z ≢ y → dist x z ≡ dist x y → Preferred g r y z

-- To be believed: the pick, computed. That it is the pick is `picked`, and that there is no other is `unique`, in proofs/.
use Rattle.std.specs.Prelude.{Bool, true, false, cond, ℕ, suc, ◌-◌, ◌*◌, ◌/◌, ◌%◌, ◌^◌, max, ℤ, pos, negsuc, neg_ℤ, eqb, ltb}
use Rattle.std.specs.Float.Ieee.{size}
use Rattle.grid.specs.Grid.{Grid, whole, float}
use Rattle.grid.specs.declared.RoundingMode.{RoundingMode}
use Rattle.grid.specs.declared.RoundingMode.TheVariants.{NearestEven, TowardsZero, TowardsPositive, TowardsNegative, NearestAway}

-- the exponent of the grid's spacing at the magnitude n
abbrev pub unit_exp : Grid → ℕ → ℕ
unit_exp (whole k) n = k
unit_exp (float p s) n = max s (size n - p)

-- q or q + 1, for a number that is not negative: q units of u, and r over
abbrev pub step : RoundingMode → ℕ → ℕ → ℕ → ℕ
step NearestEven q r u = cond (ltb (r * 2) u) q (cond (ltb u (r * 2)) (suc q) (cond (eqb (q % 2) 0) q (suc q)))
step TowardsZero q r u = q
step TowardsPositive q r u = cond (eqb r 0) q (suc q)
step TowardsNegative q r u = q
step NearestAway q r u = cond (ltb (r * 2) u) q (suc q)

unfoldable pub pick_mag : Grid → RoundingMode → ℕ → ℕ
pick_mag g r n = let u = 2 ^ unit_exp g n in step r (n / u) (n % u) u * u

-- the rule for the magnitude of a negative number
abbrev pub flip : RoundingMode → RoundingMode
flip NearestEven = NearestEven
flip TowardsZero = TowardsZero
flip TowardsPositive = TowardsNegative
flip TowardsNegative = TowardsPositive
flip NearestAway = NearestAway

unfoldable pub pick : Grid → RoundingMode → ℤ → ℤ
unfolding pick_mag
pick g r (pos n) = pos (pick_mag g r n)
pick g r (negsuc n) = neg_ℤ (pos (pick_mag g (flip r) (suc n)))

-- the rule for the magnitude of a number by its sign
abbrev pub rule_for : Bool → RoundingMode → RoundingMode
rule_for false r = r
rule_for true r = flip r

-- the number of a sign and a magnitude
abbrev pub signed : Bool → ℕ → ℤ
signed false n = pos n
signed true n = neg_ℤ (pos n)

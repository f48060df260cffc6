-- Of two picks by one rule on one grid, the larger number has the pick that is no smaller.
use mathlib.Core.Path.{◌≡◌, refl, sym, ap, subst}
use mathlib.Core.Logic.{◌≢◌}
use Prim.Native.Nat.{◌^◌}
use native.Mathlib.Nat.{zero-mul}
use lib.IntN.{ℤ, pos}
use lib.Pow.{pow_pos}
use lib.Signed.{◌≤ℤ◌, ◌<ℤ◌}
use Rattle.grid.specs.declared.RoundingMode.{RoundingMode}
use Rattle.grid.specs.declared.RoundingMode.TheVariants.{NearestEven, TowardsZero, TowardsPositive, TowardsNegative, NearestAway}
use Rattle.grid.specs.Grid.{Grid, whole, float, OnGrid}
use Rattle.grid.specs.Pick.{IsNearest, Preferred, IsPick, dist}
use Rattle.grid.proofs.Int.{up, dn, ints, split, →eq, dist_up, dist_dn}

pub zero_on : (g : Grid) → OnGrid g (pos 0)
zero_on (whole k) = record { m = 0; e = k; written = (refl, sym (zero-mul (2 ^ k))) }
zero_on (float p s) = record { m = 0; e = s; written = (pow_pos p, omega ints, sym (zero-mul (2 ^ s))) }

-- equal numbers have equal parts
part : {x y : ℤ} → x ≡ y → (up x ≡ up y) × (dn x ≡ dn y)
part e = (ap up e, ap dn e)

module _ {g : Grid} {r : RoundingMode} {x y x' y' : ℤ} (P : IsPick g r x y) (P' : IsPick g r x' y') (le : x ≤ℤ x') (bad : y' <ℤ y) where
  -- y is no grid number below x', and y' none above x
  y_over : x' ≤ℤ y
  y_over = split y x' (λ (h : y <ℤ x'). absurd (P'.none_below y P.on bad h)) (λ h. h)

  y_not : x' <ℤ y
  y_not = split x' y (λ h. h)
      (λ (h : y ≤ℤ x'). let e : y ≡ x' = →eq y x' (omega (ints, y_over)) in
      let f : y' ≡ x' = P'.itself (subst (λ (z : ℤ). OnGrid g z) e P.on) in
      omega (ints, part e, part f))

  y'-under : y' ≤ℤ x
  y'-under = split x y' (λ (h : x <ℤ y'). absurd (P.none_above y' P'.on h bad)) (λ h. h)

  y'-not : y' <ℤ x
  y'-not = split y' x (λ h. h)
      (λ (h : x ≤ℤ y'). let e : y' ≡ x = →eq y' x (omega (ints, y'-under)) in
      let f : y ≡ x = P.itself (subst (λ (z : ℤ). OnGrid g z) e P'.on) in
      omega (ints, part e, part f))

  differ : y ≢ y'
  differ e = omega (ints, part e)

  differ' : y' ≢ y
  differ' e = omega (ints, part e)

  -- under a nearest rule both are halfway, so both are one number
  module _ (n : IsNearest r) where
    mid : (dist x y' ≡ dist x y) × (dist x' y ≡ dist x' y')
    mid = omega (ints, P.near n y' P'.on, P'.near n y P.on, dist_up x y (omega (ints, y_not)), dist_dn x y' y'-under, dist_up x' y y_over, dist_dn x' y' (omega (ints, y'-not)))

    wins : Preferred g r y y' × Preferred g r y' y
    wins = (P.halfway y' P'.on differ' mid.0, P'.halfway y P.on differ mid.1)

clash : (g : Grid) (r : RoundingMode) {x y x' y' : ℤ} → IsPick g r x y → IsPick g r x' y' → x ≤ℤ x' → y' <ℤ y → ⊥
clash g NearestEven P P' le bad = let w = wins P P' le bad tt in w.1.1 w.0.0
clash g TowardsZero {x} {y} {x'} {y'} P P' le bad =
    split (pos 0) x'
    (λ (a : pos 0 <ℤ x'). split x (pos 0)
    (λ (b : x <ℤ pos 0). P'.none_below (pos 0) (zero_on g) (omega (ints, y'-not P P' le bad)) a)
    (λ (b : pos 0 ≤ℤ x). omega (ints, y_not P P' le bad, P.side.0 b)))
    (λ (a : x' ≤ℤ pos 0). omega (ints, y'-not P P' le bad, P'.side.1 a))
clash g TowardsPositive P P' le bad = omega (ints, y'-not P P' le bad, P'.side)
clash g TowardsNegative P P' le bad = omega (ints, y_not P P' le bad, P.side)
clash g NearestAway P P' le bad = let w = wins P P' le bad tt in omega (ints, w.0, w.1)

-- the larger number never gets the smaller pick
pub monotone : (g : Grid) (r : RoundingMode) {x y x' y' : ℤ} → IsPick g r x y → IsPick g r x' y' → x ≤ℤ x' → y ≤ℤ y'
monotone g r {y = y} {y' = y'} P P' le = split y' y (λ (h : y' <ℤ y). absurd (clash g r P P' le h)) (λ h. h)

-- so a number has one pick
pub unique : (g : Grid) (r : RoundingMode) {x y y' : ℤ} → IsPick g r x y → IsPick g r x y' → y ≡ y'
unique g r {x} {y} {y'} P P' = →eq y y' (omega (ints, monotone g r P P' (omega ints), monotone g r P' P (omega ints)))

-- The computed pick is a pick, on either kind of grid and by each of the five rules.
use mathlib.Core.Path.{◌≡◌, sym, ap, subst, ◌∙◌}
use mathlib.Core.Logic.{◌≢◌, ⊎_elim}
use Prim.Native.Nat.{ℕ, suc, ◌+◌, ◌*◌, ◌%◌, ◌^◌, ◌≤◌, ◌<◌}
use native.Mathlib.Nat.{div-add-mod'}
use native.Mathlib.Omega.{arith}
use lib.IntN.{ℤ, pos, negsuc, neg_ℤ, nat_abs, neg_ℤ-neg_ℤ}
use lib.Signed.{◌≤ℤ◌, ◌<ℤ◌}
use Rattle.grid.specs.declared.RoundingMode.{RoundingMode}
use Rattle.grid.specs.declared.RoundingMode.TheVariants.{NearestEven, TowardsZero, TowardsPositive, TowardsNegative, NearestAway}
use Rattle.grid.specs.Grid.{Grid, OnMag, EvenMag, OnGrid, Sound}
use Rattle.grid.specs.Pick.{Side, IsNearest, Preferred, IsPick, dist}
use Rattle.grid.specs.Round.{unit_exp, step, pick_mag, pick, flip}
use Rattle.grid.proofs.Int.{ints, abs_is, dist_is, up_neg, dn_neg}
use Rattle.grid.proofs.Order.{monotone, unique}
use Rattle.grid.proofs.Neighbours.{Cell, cell}
use Rattle.grid.proofs.Step.{by_lt, by_zero}

-- a directed rule prefers nothing
prefer : (g : Grid) (r : RoundingMode) (y z : ℤ) → (IsNearest r → Preferred g r y z) → Preferred g r y z
prefer g NearestEven y z f = f tt
prefer g TowardsZero y z f = tt
prefer g TowardsPositive y z f = tt
prefer g TowardsNegative y z f = tt
prefer g NearestAway y z f = f tt

-- ---- distances from a number that is not negative
above : (n m : ℕ) → n ≤ m → dist (pos n) (pos m) + n ≡ m
above n m h = omega (arith, dist_is (pos n) (pos m))

below : (n m : ℕ) → m ≤ n → dist (pos n) (pos m) + m ≡ n
below n m h = omega (arith, dist_is (pos n) (pos m))

across : (n m : ℕ) → dist (pos n) (negsuc m) ≡ n + suc m
across n m = omega (arith, dist_is (pos n) (negsuc m))

module _ {g : Grid} {n q u : ℕ} (r : RoundingMode) (c : Cell g n q u) where
  -- a grid number is at least as far as the lower neighbour, where that one is the nearer
  low_near : n + n ≤ q * u + suc q * u → (z : ℤ) → OnGrid g z → dist (pos n) (pos (q * u)) ≤ dist (pos n) z
  low_near h (pos m) on = ⊎_elim
      (λ (l : m ≤ q * u). omega (arith, below n (q * u) c.low, below n m (omega (arith, c.low))))
      (λ (l : suc q * u ≤ m). omega (arith, below n (q * u) c.low, above n m (omega (arith, c.high))))
      (c.gap m on)
  low_near h (negsuc m) on = omega (arith, below n (q * u) c.low, across n m)

  -- and only the upper neighbour is as far
  low_tie : n + n ≤ q * u + suc q * u → (z : ℤ) → OnGrid g z → z ≢ pos (q * u) → dist (pos n) z ≡ dist (pos n) (pos (q * u)) → (z ≡ pos (suc q * u)) × (n + n ≡ q * u + suc q * u)
  low_tie h (pos m) on ne d = ⊎_elim
      (λ (l : m ≤ q * u). absurd (ne (ap pos (omega (arith, below n (q * u) c.low, below n m (omega (arith, c.low)))))))
      (λ (l : suc q * u ≤ m). let a = above n m (omega (arith, c.high)) in let b = below n (q * u) c.low in (ap pos (omega arith), omega arith))
      (c.gap m on)
  low_tie h (negsuc m) on ne d = ⊎_elim
      (λ (l : suc m ≤ q * u). absurd (omega (arith, below n (q * u) c.low, across n m)))
      (λ (l : suc q * u ≤ suc m). absurd (omega (arith, below n (q * u) c.low, across n m)))
      (c.gap (suc m) on)

  low_pick : Side r (pos n) (pos (q * u)) → (IsNearest r → n + n ≤ q * u + suc q * u) → (IsNearest r → n + n ≡ q * u + suc q * u → Preferred g r (pos (q * u)) (pos (suc q * u))) → IsPick g r (pos n) (pos (q * u))
  low_pick side near tie = record {
    on = c.on_low;
    itself = λ on. ap pos (⊎_elim (λ (l : n ≤ q * u). omega (arith, c.low)) (λ (l : suc q * u ≤ n). absurd (omega (arith, c.high))) (c.gap n on));
    none_above = λ z on a b. omega (ints, c.low);
    none_below = none;
    side = side;
    near = λ t. low_near (near t);
    halfway = λ z on ne d. prefer g r (pos (q * u)) z λ t.
        let w = low_tie (near t) z on ne d in
        subst (λ (y : ℤ). Preferred g r (pos (q * u)) y) (sym w.0) (tie t w.1);
  }
    where
      none : (z : ℤ) → OnGrid g z → pos (q * u) <ℤ z → z <ℤ pos n → ⊥
      none (pos m) on a b = ⊎_elim (λ (l : m ≤ q * u). omega ints) (λ (l : suc q * u ≤ m). omega (ints, c.high)) (c.gap m on)
      none (negsuc m) on a b = omega ints

  module _ (over : q * u < n) where
    high_near : q * u + suc q * u ≤ n + n → (z : ℤ) → OnGrid g z → dist (pos n) (pos (suc q * u)) ≤ dist (pos n) z
    high_near h (pos m) on = ⊎_elim
        (λ (l : m ≤ q * u). omega (arith, above n (suc q * u) (omega (arith, c.high)), below n m (omega arith)))
        (λ (l : suc q * u ≤ m). omega (arith, above n (suc q * u) (omega (arith, c.high)), above n m (omega (arith, c.high))))
        (c.gap m on)
    high_near h (negsuc m) on = omega (arith, above n (suc q * u) (omega (arith, c.high)), across n m)

    high_tie : q * u + suc q * u ≤ n + n → (z : ℤ) → OnGrid g z → z ≢ pos (suc q * u) → dist (pos n) z ≡ dist (pos n) (pos (suc q * u)) → (z ≡ pos (q * u)) × (n + n ≡ q * u + suc q * u)
    high_tie h (pos m) on ne d = ⊎_elim
        (λ (l : m ≤ q * u). let a = above n (suc q * u) (omega (arith, c.high)) in let b = below n m (omega arith) in (ap pos (omega arith), omega arith))
        (λ (l : suc q * u ≤ m). absurd (ne (ap pos (omega (arith, above n (suc q * u) (omega (arith, c.high)), above n m (omega (arith, c.high)))))))
        (c.gap m on)
    high_tie h (negsuc m) on ne d = absurd (omega (arith, above n (suc q * u) (omega (arith, c.high)), across n m))

    high_pick : Side r (pos n) (pos (suc q * u)) → (IsNearest r → q * u + suc q * u ≤ n + n) → (IsNearest r → n + n ≡ q * u + suc q * u → Preferred g r (pos (suc q * u)) (pos (q * u))) → IsPick g r (pos n) (pos (suc q * u))
    high_pick side near tie = record {
      on = c.on_high;
      itself = λ on. absurd (⊎_elim (λ (l : n ≤ q * u). omega arith) (λ (l : suc q * u ≤ n). omega (arith, c.high)) (c.gap n on));
      none_above = none;
      none_below = λ z on a b. omega (ints, c.high);
      side = side;
      near = λ t. high_near (near t);
      halfway = λ z on ne d. prefer g r (pos (suc q * u)) z λ t.
          let w = high_tie (near t) z on ne d in
          subst (λ (y : ℤ). Preferred g r (pos (suc q * u)) y) (sym w.0) (tie t w.1);
    }
      where
        none : (z : ℤ) → OnGrid g z → pos n <ℤ z → z <ℤ pos (suc q * u) → ⊥
        none (pos m) on a b = ⊎_elim (λ (l : m ≤ q * u). omega ints) (λ (l : suc q * u ≤ m). omega ints) (c.gap m on)
        none (negsuc m) on a b = omega ints

-- ---- a number that is not negative
stepped : {g : Grid} {n q : ℕ} (u s : ℕ) → Cell g n q u → q * u + s ≡ n → (r : RoundingMode) → IsPick g r (pos n) (pos (step r q s u * u))
stepped {g} {n} {q} u s c is NearestEven =
    by_lt P (s * 2) u q _
    (λ (h : s * 2 < u). low_pick NearestEven c tt (λ _. omega arith) (λ _ e. absurd (omega arith)))
    (λ (h : u ≤ s * 2). by_lt P u (s * 2) (suc q) _
    (λ (l : u < s * 2). high_pick NearestEven c (omega arith) tt (λ _. omega arith) (λ _ e. absurd (omega arith)))
    (λ (l : s * 2 ≤ u). by_zero P (q % 2) q (suc q)
    (λ (v : q % 2 ≡ 0). low_pick NearestEven c tt (λ _. omega arith) (λ _ e. (c.even_low v, c.odd_high v)))
    (λ (v : 0 < q % 2). let o : q % 2 ≡ 1 = omega arith in
    high_pick NearestEven c (omega (arith, c.high)) tt (λ _. omega arith) (λ _ e. (c.even_high o, c.odd_low o)))))
  where
    P : ℕ → Type 0
    P x = IsPick g NearestEven (pos n) (pos (x * u))
stepped {g} {n} {q} u s c is TowardsZero = low_pick TowardsZero c (omega (ints, c.low)) (λ t. absurd t) (λ t. absurd t)
stepped {g} {n} {q} u s c is TowardsPositive =
    by_zero (λ (x : ℕ). IsPick g TowardsPositive (pos n) (pos (x * u))) s q (suc q)
    (λ (h : s ≡ 0). low_pick TowardsPositive c (omega ints) (λ t. absurd t) (λ t. absurd t))
    (λ (h : 0 < s). high_pick TowardsPositive c (omega arith) (omega (ints, c.high)) (λ t. absurd t) (λ t. absurd t))
stepped {g} {n} {q} u s c is TowardsNegative = low_pick TowardsNegative c (omega (ints, c.low)) (λ t. absurd t) (λ t. absurd t)
stepped {g} {n} {q} u s c is NearestAway =
    by_lt (λ (x : ℕ). IsPick g NearestAway (pos n) (pos (x * u))) (s * 2) u q (suc q)
    (λ (h : s * 2 < u). low_pick NearestAway c tt (λ _. omega arith) (λ _ e. absurd (omega arith)))
    (λ (h : u ≤ s * 2). high_pick NearestAway c (omega (arith, c.high)) tt (λ _. omega arith) (λ _ e. omega (arith, c.low, c.high)))

pub picked_pos : (g : Grid) → Sound g → (r : RoundingMode) (n : ℕ) → IsPick g r (pos n) (pos (pick_mag g r n))
unfolding pick_mag
picked_pos g ok r n = let u = 2 ^ unit_exp g n in stepped u (n % u) (cell g ok n) (div-add-mod' n u) r

-- ---- negation
abs_neg : (x : ℤ) → nat_abs (neg_ℤ x) ≡ nat_abs x
abs_neg x = omega (arith, abs_is x, abs_is (neg_ℤ x), up_neg x, dn_neg x)

dist_neg : (x y : ℤ) → dist (neg_ℤ x) y ≡ dist x (neg_ℤ y)
dist_neg x y = omega (arith, dist_is (neg_ℤ x) y, dist_is x (neg_ℤ y), up_neg x, dn_neg x, up_neg y, dn_neg y)

-- grid numbers, and what is said of them, at -z for z
turn : {g : Grid} (z : ℤ) → OnGrid g z → OnGrid g (neg_ℤ z)
turn {g} z on = subst (λ (n : ℕ). OnMag g n) (sym (abs_neg z)) on

turn_back : {g : Grid} (z : ℤ) → OnGrid g (neg_ℤ z) → OnGrid g z
turn_back {g} z on = subst (λ (n : ℕ). OnMag g n) (abs_neg z) on

flip_nearest : (r : RoundingMode) → IsNearest r → IsNearest (flip r)
flip_nearest NearestEven t = t
flip_nearest NearestAway t = t
flip_nearest TowardsZero t = t
flip_nearest TowardsPositive t = t
flip_nearest TowardsNegative t = t

flip_side : (r : RoundingMode) (x y : ℤ) → Side (flip r) x y → Side r (neg_ℤ x) (neg_ℤ y)
flip_side NearestEven x y s = tt
flip_side TowardsZero x y s = (
  λ h. omega (ints, up_neg x, dn_neg x, up_neg y, dn_neg y, s.1 (omega (ints, up_neg x, dn_neg x))),
  λ h. omega (ints, up_neg x, dn_neg x, up_neg y, dn_neg y, s.0 (omega (ints, up_neg x, dn_neg x))),
)
flip_side TowardsPositive x y s = omega (ints, up_neg x, dn_neg x, up_neg y, dn_neg y)
flip_side TowardsNegative x y s = omega (ints, up_neg x, dn_neg x, up_neg y, dn_neg y)
flip_side NearestAway x y s = tt

flip_preferred : (g : Grid) (r : RoundingMode) (y z : ℤ) → Preferred g (flip r) y (neg_ℤ z) → Preferred g r (neg_ℤ y) z
flip_preferred g NearestEven y z s = (subst (λ (n : ℕ). EvenMag g n) (sym (abs_neg y)) s.0, λ v. s.1 (subst (λ (n : ℕ). EvenMag g n) (sym (abs_neg z)) v))
flip_preferred g TowardsZero y z s = tt
flip_preferred g TowardsPositive y z s = tt
flip_preferred g TowardsNegative y z s = tt
flip_preferred g NearestAway y z s = omega (arith, abs_neg y, abs_neg z)

pub picked_neg : {g : Grid} (r : RoundingMode) {x y : ℤ} → IsPick g (flip r) x y → IsPick g r (neg_ℤ x) (neg_ℤ y)
picked_neg {g} r {x} {y} P = record {
  on = turn y P.on;
  itself = λ on. ap neg_ℤ (P.itself (turn_back x on));
  none_above = λ z on a b. P.none_below (neg_ℤ z) (turn z on)
      (omega (ints, up_neg x, dn_neg x, up_neg y, dn_neg y, up_neg z, dn_neg z)) (omega (ints, up_neg x, dn_neg x, up_neg y, dn_neg y, up_neg z, dn_neg z));
  none_below = λ z on a b. P.none_above (neg_ℤ z) (turn z on)
      (omega (ints, up_neg x, dn_neg x, up_neg y, dn_neg y, up_neg z, dn_neg z)) (omega (ints, up_neg x, dn_neg x, up_neg y, dn_neg y, up_neg z, dn_neg z));
  side = flip_side r x y P.side;
  near = λ t z on. omega (arith, dist_neg x (neg_ℤ y), ap (dist x) (neg_ℤ-neg_ℤ y), dist_neg x z, P.near (flip_nearest r t) (neg_ℤ z) (turn z on));
  halfway = λ z on ne d. flip_preferred g r y z (P.halfway (neg_ℤ z) (turn z on)
      (λ e. ne (sym (neg_ℤ-neg_ℤ z) ∙ ap neg_ℤ e))
      (omega (arith, dist_neg x (neg_ℤ y), ap (dist x) (neg_ℤ-neg_ℤ y), dist_neg x z)));
}

-- ---- the theorem
pub picked : (g : Grid) → Sound g → (r : RoundingMode) (x : ℤ) → IsPick g r x (pick g r x)
unfolding pick
picked g ok r (pos n) = picked_pos g ok r n
picked g ok r (negsuc n) = picked_neg r (picked_pos g ok (flip r) (suc n))

pub pick_mono : (g : Grid) → Sound g → (r : RoundingMode) (x x' : ℤ) → x ≤ℤ x' → pick g r x ≤ℤ pick g r x'
pick_mono g ok r x x' h = monotone g r (picked g ok r x) (picked g ok r x') h

pub pick_only : (g : Grid) → Sound g → (r : RoundingMode) (x y : ℤ) → IsPick g r x y → y ≡ pick g r x
pick_only g ok r x y P = unique g r P (picked g ok r x)

pub pick_mag_mono : (g : Grid) → Sound g → (r : RoundingMode) (a b : ℕ) → a ≤ b → pick_mag g r a ≤ pick_mag g r b
pick_mag_mono g ok r a b h = omega (ints, monotone g r (picked_pos g ok r a) (picked_pos g ok r b) (omega ints))

-- a grid number is its own pick
pub pick_own : (g : Grid) → Sound g → (r : RoundingMode) (x : ℤ) → OnGrid g x → pick g r x ≡ x
pick_own g ok r x on = (picked g ok r x).itself on

-- The bits below the sign of a finite magnitude rounded to a narrower format, and where they lie: where its numbers are normal, and where they are not.
use mathlib.Core.Path.{◌≡◌, refl, sym, ap, ap₂, subst, ◌∙◌}
use mathlib.Core.Bool.{Bool}
use Prim.Native.Nat.{max, min, ℕ, ◌+◌, ◌-◌, ◌*◌, ◌/◌, ◌%◌, ◌^◌, ◌≤◌, ◌<◌}
use native.Mathlib.Nat.{add_comm, div-lt_iff_lt-mul, le_antisymm, le_trans, mod-eq_of_lt, zero-add}
use native.Mathlib.Omega.{arith}
use lib.Dec.{lit<}
use lib.Ieee.{size}
use lib.Ieee.Digits.{size-lt, size-le}
use lib.Pow.{pow-add, pow_mono, pow_pos}
use Rattle.grid.specs.declared.RoundingMode.{RoundingMode}
use Rattle.grid.specs.declared.Rounded.{Rounded}
use Rattle.grid.specs.declared.Ternary.{Ternary}
use Rattle.grid.specs.Grid.{float, whole}
use Rattle.grid.specs.Round.{pick_mag, rule_for, signed, step}
use Rattle.grid.specs.Ternary.{ternary_of, ternary_for}
use Rattle.grid.proofs.Kept.{pick_shift}
use Rattle.grid.proofs.Neighbours.{cut}
use Rattle.grid.proofs.Step.{step_le}
use Rattle.patterns.specs.Float.{bits_mag}
use Rattle.patterns.specs.Pattern.{mag_bits}
use Rattle.patterns.proofs.PickBits.{float_law}
use Rattle.patterns.proofs.Encode.{encode}
use Rattle.patterns.proofs.Floats.{bits_again}
use Rattle.scaled.specs.Scaled.{Canonical}
use Rattle.rounding.specs.Rounding.{Droppable, shifted, units_of}
use Rattle.rounding.proofs.Units.{over_unit, whole_times_unit, below_power, below_unit, unit_side}
use Rattle.narrowing.specs.Format.{Narrower, narrowed}
use Rattle.grid.proofs.Sides.{side_power}
use Rattle.narrowing.proofs.Carried.{fields_even, carried, carried_side}

-- ---- a number so small that the grid's spacing there is the smallest: its bits count that spacing
module _ (r : RoundingMode) (p s n : ℕ) (two : 2 ≤ p) (near : n < 2 ^ (p + s)) where
  few : units_of s r n ≤ 2 ^ p
  unfolding pick_mag
  few = subst (λ (z : ℕ). z ≤ 2 ^ p) (sym (over_unit r s n _ refl)) (le_trans (step_le r (n / 2 ^ s) (n % 2 ^ s) (2 ^ s)) ((div-lt_iff_lt-mul (pow_pos s)).1 (subst (λ (z : ℕ). n < z) (pow-add 2 p s) near)))

  same_spacing : pick_mag (whole s) r n ≡ pick_mag (float p s) r n
  unfolding pick_mag
  same_spacing = ap (λ (k : ℕ). step r (n / 2 ^ k) (n % 2 ^ k) (2 ^ k) * 2 ^ k) (omega (arith, size-le n (p + s) near))

  units_bits : bits_mag p s (units_of s r n) ≡ pick_mag (float p s) r n
  units_bits =
      ap (bits_mag p s) (none (2 ^ (p - 1)) (units_of s r n))
      ∙ encode p s 0 (units_of s r n) (omega arith) few (λ (h : 0 < 0). absurd (omega arith))
      ∙ ap (λ (z : ℕ). units_of s r n * 2 ^ z) (zero-add s)
      ∙ sym (whole_times_unit r s n)
      ∙ same_spacing
    where
      none : (h q : ℕ) → q ≡ 0 * h + q
      none h q = omega arith

-- ---- a number whose narrowed form is normal: the low bits are dropped from its field and its significand as one number
module _ (r : RoundingMode) (p s drop base m y : ℕ) (two : 2 ≤ p) (less : 0 < drop) (fill : p + drop ≡ 53) (start : base + drop ≡ s) (small : m < 2 ^ 53) (full : 2 ^ 52 ≤ m) (reach : base ≤ y) where
  size_m : size m ≡ 53
  size_m = le_antisymm (size-le m 53 small) (cut (size m) 53 (λ (l : size m < 53). let k : 2 ^ size m ≤ 2 ^ 52 = pow_mono {j = 52} (omega arith) in absurd (omega (arith, size-lt m))) (λ l. l))

  abbrev K : ℕ
  K = max s (size m + y - p)

  spacing : K ≡ drop + y
  spacing = omega (arith, size_m)

  abbrev x : ℕ
  x = (y - base) * 2 ^ 52 + m

  normal_bits : bits_mag p s (step r (x / 2 ^ drop) (x % 2 ^ drop) (2 ^ drop)) ≡ pick_mag (float p s) r (m * 2 ^ y)
  normal_bits =
      ap (bits_mag p s)
      (carried 52 drop (y - base) (omega arith) r x m refl (fields_even (y - base) (52 - drop) (omega arith))
      ∙ add_comm (step r (m / 2 ^ drop) (m % 2 ^ drop) (2 ^ drop)) ((y - base) * 2 ^ (52 - drop)))
      ∙ ap₂ (λ (a b : ℕ). bits_mag p s (a * 2 ^ b + step r (m / 2 ^ drop) (m % 2 ^ drop) (2 ^ drop))) (omega (arith, spacing)) (omega arith)
      ∙ ap (λ (j : ℕ). bits_mag p s ((K - s) * 2 ^ (p - 1) + step r (m / 2 ^ j) (m % 2 ^ j) (2 ^ j))) (omega (arith, spacing))
      ∙ float_law p s m y two (omega arith) (omega (arith, spacing)) r

  normal_pick : pick_mag (float p s) r (m * 2 ^ y) ≡ step r (m / 2 ^ drop) (m % 2 ^ drop) (2 ^ drop) * 2 ^ (drop + y)
  normal_pick =
      pick_shift (float p s) r m y (omega arith) (omega (arith, spacing))
      ∙ ap₂ (λ (i j : ℕ). step r (m / 2 ^ i) (m % 2 ^ i) (2 ^ i) * 2 ^ j) (omega (arith, spacing)) spacing

  normal_side : (neg : Bool) → ternary_of (signed neg x) (signed neg (step r (x / 2 ^ drop) (x % 2 ^ drop) (2 ^ drop) * 2 ^ drop)) ≡ ternary_of (signed neg (m * 2 ^ y)) (signed neg (pick_mag (float p s) r (m * 2 ^ y)))
  normal_side neg =
      carried_side 52 drop (y - base) (omega arith) neg r x m refl (fields_even (y - base) (52 - drop) (omega arith))
      ∙ side_power neg m (step r (m / 2 ^ drop) (m % 2 ^ drop) (2 ^ drop)) drop y
      ∙ ap (λ (z : ℕ). ternary_of (signed neg (m * 2 ^ y)) (signed neg z)) (sym normal_pick)

-- ---- what a program has in hand
module _ (neg : Bool) (mode : RoundingMode) (m e p s : ℕ) (ask : Canonical (record { significand = m; exponent = e })) (narrower : Narrower p s) where
  abbrev drop : ℕ
  drop = 53 - p

  abbrev base : ℕ
  base = s - (53 - p)

  -- units whose number is the pick, and that lie where it does
  rounded_of_lem : (x j : ℕ) → let q = step (rule_for neg mode) (x / 2 ^ j) (x % 2 ^ j) (2 ^ j) in bits_mag p s q ≡ pick_mag (float p s) (rule_for neg mode) (m * 2 ^ e)
      → ternary_of (signed neg x) (signed neg (q * 2 ^ j)) ≡ ternary_for (float p s) neg mode (m * 2 ^ e) → shifted neg mode x j ≡ narrowed p s neg mode (m * 2 ^ e)
  rounded_of_lem x j b t = ap₂ {C = Rounded} (λ (b : ℕ) (t : Ternary). record { bits = b; ternary = t }) (sym (bits_again p 1 s narrower.two (lit< tt) _) ∙ ap (mag_bits p s) b) t

  module _ (reach : base ≤ e) where
    pub field_fits : (e - base) * 2 ^ 52 % 2 ^ 64 ≡ (e - base) * 2 ^ 52
    field_fits = mod-eq_of_lt (omega (arith, ask.finite))

    pub normal_drops : Droppable ((e - base) * 2 ^ 52 % 2 ^ 64 + m) drop
    normal_drops = record { positive = omega (arith, narrower.fewer); below_64 = omega arith; fits = omega (arith, ask.small, ask.finite, field_fits, pow_mono {i = 53 - p} {j = 52} (omega (arith, narrower.two))) }

    pub normal_rounded : shifted neg mode ((e - base) * 2 ^ 52 % 2 ^ 64 + m) drop ≡ narrowed p s neg mode (m * 2 ^ e)
    normal_rounded =
        let r = rule_for neg mode in
        let less : 0 < drop = omega (arith, narrower.fewer) in
        let fill : p + drop ≡ 53 = omega (arith, narrower.fewer) in
        let start : base + drop ≡ s = omega (arith, narrower.coarser) in
        let full = ask.leading (omega (arith, narrower.coarser)) in
        ap (λ (z : ℕ). shifted neg mode (z + m) drop) field_fits
        ∙ rounded_of_lem ((e - base) * 2 ^ 52 + m) drop (normal_bits r p s drop base m e narrower.two less fill start ask.small full reach) (normal_side r p s drop base m e narrower.two less fill start ask.small full reach neg)

  module _ (under : e < base) (j : ℕ) (is : j ≡ min (s - e) 63) where
    pub low_drops : Droppable m j
    low_drops = record { positive = omega arith; below_64 = omega arith; fits = omega (arith, ask.small, pow_mono {i = j} {j = 63} (omega arith)) }

    pub low_rounded : shifted neg mode m j ≡ narrowed p s neg mode (m * 2 ^ e)
    low_rounded =
        let r = rule_for neg mode in
        let units = below_unit r s m e j ask.small (omega arith) is in
        let near = below_power m e (p + s) ask.small (omega (arith, narrower.fewer)) in
        rounded_of_lem m j (ap (bits_mag p s) units ∙ units_bits r p s (m * 2 ^ e) narrower.two near)
        (unit_side neg s m e j _ ask.small (omega arith) is ∙ ap (λ (z : ℕ). ternary_of (signed neg (m * 2 ^ e)) (signed neg z)) (ap (λ (q : ℕ). q * 2 ^ s) units ∙ sym (whole_times_unit r s (m * 2 ^ e)) ∙ same_spacing r p s (m * 2 ^ e) narrower.two near))

-- A step is a quotient: what is added first depends on the rule and, for nearest-even, on the last kept bit.
use mathlib.Core.Path.{◌≡◌, subst, sym, ap, ap₂, ◌∙◌}
use mathlib.Core.Bool.{Bool, true, false}
use Prim.Native.Nat.{ℕ, zero, suc, ◌+◌, ◌-◌, ◌*◌, ◌/◌, ◌%◌, ◌^◌, ◌≤◌, ◌<◌}
use native.Mathlib.Nat.{div-add-mod', mod-lt, div-eq_of_lt-le, le_refl}
use native.Mathlib.Omega.{arith}
use lib.Bits.{bit_and, and_mask}
use lib.Dec.{eqb, ltb}
use lib.Pow.{pow_pos}
use Rattle.grid.specs.declared.RoundingMode.{RoundingMode}
use Rattle.grid.specs.declared.RoundingMode.TheVariants.{NearestEven, TowardsZero, TowardsPositive, TowardsNegative, NearestAway}
use Rattle.grid.specs.declared.Rounded.{Rounded}
use Rattle.grid.specs.declared.Ternary.{Ternary}
use Rattle.grid.specs.Round.{step, rule_for, flip, signed}
use Rattle.grid.specs.Ternary.{ternary_of}
use Rattle.grid.proofs.Sides.{step_exact, step_larger}
use Rattle.grid.proofs.Step.{by_lt, by_zero}
use Rattle.patterns.proofs.Shifts.{one_shifted}
use Rattle.rounding.specs.Rounding.{increment_of, shifted}

-- what is added reaches no further unit, or one
low : (m b q s u : ℕ) → q * u + s ≡ m → s + b < u → (m + b) / u ≡ q
low m b q s u e h = div-eq_of_lt-le u (omega arith) (omega arith)

high : (m b q s u : ℕ) → q * u + s ≡ m → u ≤ s + b → s + b < u + u → (m + b) / u ≡ suc q
high m b q s u e h k = div-eq_of_lt-le u (omega arith) (omega arith)

-- for a unit that is even
pub incremented : (r : RoundingMode) (q s m v : ℕ) → 0 < v → q * (v + v) + s ≡ m → s < v + v → (m + increment_of r q (v + v - 1)) / (v + v) ≡ step r q s (v + v)
incremented NearestEven q s m v o e l =
    by_lt P (s * 2) (v + v) q _
    (λ (h : s * 2 < v + v). low m ((v + v - 1) / 2 + q % 2) q s (v + v) e (omega arith))
    (λ (h : v + v ≤ s * 2). by_lt P (v + v) (s * 2) (suc q) _
    (λ (k : v + v < s * 2). high m ((v + v - 1) / 2 + q % 2) q s (v + v) e (omega arith) (omega arith))
    (λ (k : s * 2 ≤ v + v). by_zero P (q % 2) q (suc q)
    (λ (z : q % 2 ≡ 0). low m ((v + v - 1) / 2 + q % 2) q s (v + v) e (omega arith))
    (λ (z : 0 < q % 2). high m ((v + v - 1) / 2 + q % 2) q s (v + v) e (omega arith) (omega arith))))
  where
    P : ℕ → Type 0
    P x = (m + ((v + v - 1) / 2 + q % 2)) / (v + v) ≡ x
incremented TowardsZero q s m v o e l = low m 0 q s (v + v) e (omega arith)
incremented TowardsPositive q s m v o e l =
    by_zero (λ (x : ℕ). (m + (v + v - 1)) / (v + v) ≡ x) s q (suc q)
    (λ (h : s ≡ 0). low m (v + v - 1) q s (v + v) e (omega arith))
    (λ (h : 0 < s). high m (v + v - 1) q s (v + v) e (omega arith) (omega arith))
incremented TowardsNegative q s m v o e l = low m 0 q s (v + v) e (omega arith)
incremented NearestAway q s m v o e l =
    by_lt (λ (x : ℕ). (m + (v + v - 1 - (v + v - 1) / 2)) / (v + v) ≡ x) (s * 2) (v + v) q (suc q)
    (λ (h : s * 2 < v + v). low m (v + v - 1 - (v + v - 1) / 2) q s (v + v) e (omega arith))
    (λ (h : v + v ≤ s * 2). high m (v + v - 1 - (v + v - 1) / 2) q s (v + v) e (omega arith) (omega arith))

-- for a power of two past the first
pub incremented_pow : (r : RoundingMode) (m j : ℕ) → 0 < j → (m + increment_of r (m / 2 ^ j) (2 ^ j - 1)) / 2 ^ j ≡ step r (m / 2 ^ j) (m % 2 ^ j) (2 ^ j)
incremented_pow r m zero h = elim h [ ]
incremented_pow r m (suc i) h =
    subst (λ (u : ℕ). (m + increment_of r (m / u) (u - 1)) / u ≡ step r (m / u) (m % u) u) (dbl i)
    (incremented r (m / (2 ^ i + 2 ^ i)) (m % (2 ^ i + 2 ^ i)) m (2 ^ i) (pow_pos i) (div-add-mod' m (2 ^ i + 2 ^ i)) (mod-lt m (omega (arith, pow_pos i))))
  where
    dbl : (i : ℕ) → 2 ^ i + 2 ^ i ≡ 2 ^ suc i
    dbl i = omega arith

-- no rule adds more than all but a unit
pub increment_le : (r : RoundingMode) (q h : ℕ) → h % 2 ≡ 1 → increment_of r q h ≤ h
increment_le NearestEven q h o = omega arith
increment_le TowardsZero q h o = omega arith
increment_le TowardsPositive q h o = le_refl h
increment_le TowardsNegative q h o = omega arith
increment_le NearestAway q h o = omega arith

-- so the sum stays below the next power of two
pub increment_fits : (r : RoundingMode) (m j : ℕ) → 0 < j → m + 2 ^ j ≤ 2 ^ 64 → m + increment_of r (m / 2 ^ j) (2 ^ j - 1) < 2 ^ 64
increment_fits r m zero h room = elim h [ ]
increment_fits r m (suc i) h room = omega (arith, increment_le r (m / 2 ^ suc i) (2 ^ suc i - 1) (omega (arith, pow_pos i)), pow_pos i)

-- a rule that does not look at the sign
pub either_sign : (s : Bool) (mode r : RoundingMode) → mode ≡ r → flip r ≡ r → (q h : ℕ) → increment_of r q h ≡ increment_of (rule_for s mode) q h
either_sign false mode r e f q h = ap (λ (z : RoundingMode). increment_of z q h) (sym e)
either_sign true mode r e f q h = ap (λ (z : RoundingMode). increment_of z q h) (sym (ap flip e ∙ f))

-- with the sum of the increment that a program worked out from 1 shifted by j
module _ (r : RoundingMode) (b m j : ℕ) (some : 0 < j) (few : j < 64) (is : b ≡ increment_of r (m / 2 ^ j) (1 * 2 ^ j % 2 ^ 64 - 1)) where
  increment_is : b ≡ increment_of r (m / 2 ^ j) (2 ^ j - 1)
  increment_is = is ∙ ap (λ (u : ℕ). increment_of r (m / 2 ^ j) (u - 1)) (one_shifted j few)

  pub sum_fits : m + 2 ^ j ≤ 2 ^ 64 → m + b < 2 ^ 64
  sum_fits room = subst (λ (z : ℕ). m + z < 2 ^ 64) (sym increment_is) (increment_fits r m j some room)

  sum_steps : (m + b) / 2 ^ j ≡ step r (m / 2 ^ j) (m % 2 ^ j) (2 ^ j)
  sum_steps = ap (λ (x : ℕ). (m + x) / 2 ^ j) increment_is ∙ incremented_pow r m j some

  rest_is : bit_and m (1 * 2 ^ j % 2 ^ 64 - 1) ≡ m % 2 ^ j
  rest_is = ap (λ (u : ℕ). bit_and m (u - 1)) (one_shifted j few) ∙ and_mask m j

  -- the tests that tell where the quotient's multiple lies
  pub sum_exact : eqb (bit_and m (1 * 2 ^ j % 2 ^ 64 - 1)) 0 ≡ eqb m ((m + b) / 2 ^ j * 2 ^ j)
  sum_exact =
      ap (λ (x : ℕ). eqb x 0) rest_is
      ∙ sym (step_exact r (m / 2 ^ j) (m % 2 ^ j) (2 ^ j) (pow_pos j) (mod-lt m (pow_pos j)))
      ∙ ap₂ (λ (x y : ℕ). eqb x (y * 2 ^ j)) (div-add-mod' m (2 ^ j)) (sym sum_steps)

  pub sum_larger : ltb (m / 2 ^ j) ((m + b) / 2 ^ j) ≡ ltb m ((m + b) / 2 ^ j * 2 ^ j)
  sum_larger =
      ap (ltb (m / 2 ^ j)) sum_steps
      ∙ sym (step_larger r (m / 2 ^ j) (m % 2 ^ j) (2 ^ j) (pow_pos j) (mod-lt m (pow_pos j)))
      ∙ ap₂ (λ (x y : ℕ). ltb x (y * 2 ^ j)) (div-add-mod' m (2 ^ j)) (sym sum_steps)

-- the quotient with what those tests tell
pub shifted_is : (neg : Bool) (mode : RoundingMode) (b m j : ℕ) (t : Ternary) → 0 < j → j < 64 → b ≡ increment_of (rule_for neg mode) (m / 2 ^ j) (1 * 2 ^ j % 2 ^ 64 - 1) → t ≡ ternary_of (signed neg m) (signed neg ((m + b) / 2 ^ j * 2 ^ j))
    → record { bits = (m + b) / 2 ^ j; ternary = t } ≡ shifted neg mode m j
shifted_is neg mode b m j t some few is e =
    ap {B = Rounded} (λ (t : Ternary). record { bits = (m + b) / 2 ^ j; ternary = t }) e
    ∙ ap {B = Rounded} (λ (q : ℕ). record { bits = q; ternary = ternary_of (signed neg m) (signed neg (q * 2 ^ j)) }) (sum_steps (rule_for neg mode) b m j some few is)

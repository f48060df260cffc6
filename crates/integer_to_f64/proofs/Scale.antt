-- The pick of a whole number on a float's grid, in units of 1 and in units of 2 ^ k.
use mathlib.Core.Path.{◌≡◌, sym, ap, ap₂, ◌∙◌}
use mathlib.Core.Bool.{Bool}
use Prim.Native.Nat.{ℕ, ◌+◌, ◌-◌, ◌*◌, ◌/◌, ◌%◌, ◌^◌, ◌≤◌, ◌<◌, max}
use native.Mathlib.Nat.{zero-mul, mul_assoc, pos_of_ne-zero}
use native.Mathlib.Omega.{arith}
use lib.Ieee.{size}
use lib.Ieee.Digits.{size-le}
use lib.Pow.{pow-add}
use Rattle.grid.specs.declared.RoundingMode.{RoundingMode}
use Rattle.grid.specs.declared.Rounded.{Rounded}
use Rattle.grid.specs.declared.Ternary.{Ternary}
use Rattle.grid.specs.declared.Ternary.TheVariants.{Exact}
use Rattle.grid.specs.Grid.{float}
use Rattle.grid.specs.Round.{step, pick_mag, pick, rule_for, signed}
use Rattle.grid.proofs.Neighbours.{cut}
use Rattle.grid.proofs.Kept.{pick_shift, pick_signed, pick_zero}
use Rattle.patterns.specs.Pattern.{mag_bits}
use Rattle.grid.proofs.Sides.{exact_is}
use Rattle.integer_rounding.proofs.Picks.{pick_few_bits, pick_itself, pick_many_bits}
use Rattle.integer_to_f64.specs.RoundedBits.{rounded_bits}

-- ---- the scale law
pub pick_scale : (p s : ℕ) (r : RoundingMode) (m k : ℕ) → s ≤ k → pick_mag (float p s) r (m * 2 ^ k) ≡ pick_mag (float p 0) r m * 2 ^ k
pick_scale p s r m k h = cut p (size m)
    (λ (l : p < size m).
    let j = size m - p in
    let c : step r (m / 2 ^ j) (m % 2 ^ j) (2 ^ j) * 2 ^ (j + k) ≡ pick_mag (float p 0) r m * 2 ^ k =
    ap (λ (x : ℕ). step r (m / 2 ^ j) (m % 2 ^ j) (2 ^ j) * x) (pow-add 2 j k) ∙ sym (mul_assoc (step r (m / 2 ^ j) (m % 2 ^ j) (2 ^ j)) (2 ^ j) (2 ^ k)) ∙ ap (λ (x : ℕ). x * 2 ^ k) (sym (pick_many_bits p r m j (omega arith))) in
    pick_shift (float p s) r m k (some m l) (omega arith)
    ∙ ap (λ (z : ℕ). step r (m / 2 ^ (z - k)) (m % 2 ^ (z - k)) (2 ^ (z - k)) * 2 ^ z) (unit (size m) l)
    ∙ ap (λ (z : ℕ). step r (m / 2 ^ z) (m % 2 ^ z) (2 ^ z) * 2 ^ (j + k)) (over j)
    ∙ c)
    (λ (l : size m ≤ p). pick_few_bits p s r m k h l ∙ ap (λ (x : ℕ). x * 2 ^ k) (sym (pick_itself p r m l)))
  where
    some : (m : ℕ) → p < size m → 0 < m
    some m l = pos_of_ne-zero (λ (e : m ≡ 0). omega (arith, size-le m 0 (omega arith)))

    unit : (z : ℕ) → p < z → max s (z + k - p) ≡ z - p + k
    unit z l = omega arith

    over : (j : ℕ) → j + k - k ≡ j
    over j = omega arith

-- ---- with a sign
pub pick_scale_signed : (p s : ℕ) → 2 ≤ p → (r : RoundingMode) (neg : Bool) (m k : ℕ) → s ≤ k → pick (float p s) r (signed neg (m * 2 ^ k)) ≡ signed neg (pick_mag (float p 0) (rule_for neg r) m * 2 ^ k)
pick_scale_signed p s two r neg m k h = pick_signed (float p s) two r neg (m * 2 ^ k) ∙ ap (signed neg) (pick_scale p s (rule_for neg r) m k h)

-- ---- "Integer zero gives +0."
no_bits : (u : ℕ) → mag_bits 53 0 (0 * u) ≡ 0
unfolding size
no_bits u = ap (mag_bits 53 0) (zero-mul u)

pub zero_rounded : (p m : ℕ) → 2 ≤ p → (neg : Bool) (r : RoundingMode) → m ≡ 0 → record { bits = 0; ternary = Exact } ≡ rounded_bits p neg r m
zero_rounded p m two neg r e =
    let none : pick_mag (float p 0) (rule_for neg r) m ≡ 0 = ap (pick_mag (float p 0) (rule_for neg r)) e ∙ pick_zero (float p 0) two (rule_for neg r) in
    ap₂ {C = Rounded} (λ (b : ℕ) (t : Ternary). record { bits = b; ternary = t })
    (sym (ap (λ (n : ℕ). mag_bits 53 0 (n * 2 ^ 1074)) none ∙ no_bits (2 ^ 1074)))
    (sym (exact_is (signed neg m) (signed neg (pick_mag (float p 0) (rule_for neg r) m)) (ap (signed neg) (none ∙ sym e))))

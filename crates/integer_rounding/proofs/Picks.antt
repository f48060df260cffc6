-- The pick of a whole number on a float's grid: itself where the grid keeps all its bits, and otherwise the bits that it keeps, stepped by the rest.
use Rattle.std.proofs.Common.{◌≡◌, ℕ, ◌+◌, ◌-◌, ◌*◌, ◌/◌, ◌%◌, ◌^◌, ◌≤◌, max, sym, ap, ◌∙◌, subst, mul_assoc, div-add-mod', mul-one, sub-add_cancel, arith, pow_pos, pow-add, shl_lt}
use native.Mathlib.Nat.{mul-mod_left}
use lib.Ieee.{size}
use lib.Ieee.Digits.{size-lt, size-le}
use Rattle.grid.specs.declared.RoundingMode.{RoundingMode}
use Rattle.grid.specs.Grid.{Grid, float}
use Rattle.grid.specs.Round.{unit_exp, step, pick_mag}
use Rattle.grid.proofs.Step.{step_no_rest}

-- ---- a whole number of units is picked itself
pick_whole_units : (g : Grid) (r : RoundingMode) (n : ℕ) → n % 2 ^ unit_exp g n ≡ 0 → pick_mag g r n ≡ n
unfolding pick_mag
pick_whole_units g r n h =
    let u = 2 ^ unit_exp g n in
    ap (λ (x : ℕ). step r (n / u) x u * u) h ∙ ap (λ (x : ℕ). x * u) (step_no_rest r (n / u) u (pow_pos (unit_exp g n))) ∙ sum (n / u * u) (n % u) h ∙ div-add-mod' n u
  where
    sum : (a b : ℕ) → b ≡ 0 → a ≡ a + b
    sum a b h = omega arith

no_rest : (m j k : ℕ) → j ≤ k → m * 2 ^ k % 2 ^ j ≡ 0
no_rest m j k h =
    ap (λ (x : ℕ). m * 2 ^ x % 2 ^ j) (sym (sub-add_cancel h))
    ∙ ap (λ (x : ℕ). m * x % 2 ^ j) (pow-add 2 (k - j) j)
    ∙ ap (λ (x : ℕ). x % 2 ^ j) (sym (mul_assoc m (2 ^ (k - j)) (2 ^ j)))
    ∙ mul-mod_left (m * 2 ^ (k - j)) (2 ^ j)

-- m has no more bits than the grid keeps
pub pick_few_bits : (p s : ℕ) (r : RoundingMode) (m k : ℕ) → s ≤ k → size m ≤ p → pick_mag (float p s) r (m * 2 ^ k) ≡ m * 2 ^ k
pick_few_bits p s r m k h l = pick_whole_units (float p s) r (m * 2 ^ k) (no_rest m (max s (size (m * 2 ^ k) - p)) k (least (size (m * 2 ^ k)) (size-le (m * 2 ^ k) (size m + k) (shl_lt (size m) k (size-lt m)))))
  where
    least : (z : ℕ) → z ≤ size m + k → max s (z - p) ≤ k
    least z b = omega (arith, h, l)

pub pick_itself : (p : ℕ) (r : RoundingMode) (m : ℕ) → size m ≤ p → pick_mag (float p 0) r m ≡ m
pick_itself p r m l = subst (λ (z : ℕ). pick_mag (float p 0) r z ≡ z) (mul-one m) (pick_few_bits p 0 r m 0 (omega arith) l)

-- m's bits above the grid's precision, stepped by those below
pub pick_many_bits : (p : ℕ) (r : RoundingMode) (m k : ℕ) → p + k ≡ size m → pick_mag (float p 0) r m ≡ step r (m / 2 ^ k) (m % 2 ^ k) (2 ^ k) * 2 ^ k
unfolding pick_mag
pick_many_bits p r m k h = ap (λ (z : ℕ). step r (m / 2 ^ z) (m % 2 ^ z) (2 ^ z) * 2 ^ z) (unit (size m) h)
  where
    unit : (z : ℕ) → p + k ≡ z → max 0 (z - p) ≡ k
    unit z h = omega arith

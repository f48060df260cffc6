-- A magnitude rounded to p significant bits, as the float that a program computes, and the tests that tell where it lies.
use Rattle.std.proofs.Common.{◌≡◌, ℕ, ◌+◌, ◌-◌, ◌*◌, ◌/◌, ◌%◌, ◌^◌, ◌<◌, ◌≤◌, Bool, true, false, cond, eqb, ltb, pos, sym, ap, ◌∙◌, subst, ap₂, le_trans, mod-lt, mod-eq_of_lt, one-mul, div-add-mod', zero-mul, mul-one, arith, pow_pos, pow_mono, shr_lt}
use mir.Val.{bool_byte}
use lib.Ieee.{Float, binary64, size, add, of_int}
use lib.Ieee.Digits.{size-lt, size-le}
use lib.Ieee.Exact.{HasValue}
use lib.Pow.{pow-lt}
use Rattle.grid.specs.declared.RoundingMode.{RoundingMode}
use Rattle.grid.specs.declared.Ternary.TheVariants.{Exact}
use Rattle.grid.specs.Grid.{float}
use Rattle.grid.specs.Round.{step, pick_mag, rule_for, signed}
use Rattle.grid.specs.Ternary.{ternary_for}
use Rattle.grid.proofs.Sides.{exact_is, step_exact, step_larger}
use Rattle.integer_rounding.specs.Precision.{Precision, steps_up}
use Rattle.integer_rounding.proofs.Steps.{step_by_up}
use Rattle.integer_rounding.proofs.Sums.{of_int_exact, add_exact}
use Rattle.integer_rounding.proofs.Picks.{pick_itself, pick_many_bits}

-- what exceeds the precision is dropped
pub dropped : (p z m : ℕ) → z ≡ size m → p < z → p + (z - p) ≡ size m
dropped p z m e h = omega arith

module _ (p m : ℕ) (ok : Precision p) where
  -- ---- no digit is dropped
  pub few_bits : (r : RoundingMode) → size m ≤ p → HasValue (of_int binary64 (pos m)) false (pick_mag (float p 0) r m) 1
  few_bits r h =
      let l : m ≤ 2 ^ 53 = omega (arith, size-lt m, pow_mono {i = size m} {j = 53} (omega (arith, ok.at_most_53))) in
      let a = subst (λ (z : ℕ). HasValue (of_int binary64 (pos z)) false z 1) (mul-one m) (of_int_exact binary64 m 0 (omega arith) l) in
      subst (λ (z : ℕ). HasValue (of_int binary64 (pos m)) false z 1) (sym (pick_itself p r m h)) a

  pub few_bits_exact : (neg : Bool) (r : RoundingMode) → size m ≤ p → Exact ≡ ternary_for (float p 0) neg r m
  few_bits_exact neg r h = sym (exact_is (signed neg m) (signed neg (pick_mag (float p 0) (rule_for neg r) m)) (ap (signed neg) (pick_itself p (rule_for neg r) m h)))

  -- ---- k bits are dropped
  module _ (k : ℕ) (is : p + k ≡ size m) (word : m < 2 ^ 64) where
    pub shift_lt : k < 63
    shift_lt = omega (arith, ok.two, size-le m 64 word)

    kept_is : m / 2 ^ k * 2 ^ k % 2 ^ 64 ≡ m / 2 ^ k * 2 ^ k
    kept_is = mod-eq_of_lt (omega (arith, div-add-mod' m (2 ^ k)))

    unit_is : 1 * 2 ^ k % 2 ^ 64 ≡ 2 ^ k
    unit_is = ap (λ (z : ℕ). z % 2 ^ 64) (one-mul (2 ^ k)) ∙ mod-eq_of_lt (pow-lt {i = k} {j = 64} (omega (arith, shift_lt)))

    pub kept_le : m / 2 ^ k * 2 ^ k % 2 ^ 64 ≤ m
    kept_le = omega (arith, kept_is, div-add-mod' m (2 ^ k))

    rest_is : m - m / 2 ^ k * 2 ^ k % 2 ^ 64 ≡ m % 2 ^ k
    rest_is = omega (arith, kept_is, div-add-mod' m (2 ^ k))

    pub rest_lt : m - m / 2 ^ k * 2 ^ k % 2 ^ 64 < 1 * 2 ^ k % 2 ^ 64
    rest_lt = omega (arith, rest_is, unit_is, mod-lt m (pow_pos k))

    -- one unit or none, as the step says
    carried : (t : Bool) → m / 2 ^ k + cond t 1 0 ≤ 2 ^ 53
    carried t = le_trans (go t (shr_lt p k (subst (λ (z : ℕ). m < 2 ^ z) (sym is) (size-lt m)))) (pow_mono ok.at_most_53)
      where
        go : (t : Bool) → m / 2 ^ k < 2 ^ p → m / 2 ^ k + cond t 1 0 ≤ 2 ^ p
        go true h = omega arith
        go false h = omega arith

    sum_is : (r : RoundingMode) (t : Bool) → t ≡ steps_up r (m / 2 ^ k) (m % 2 ^ k) (2 ^ k)
        → HasValue (add binary64 (of_int binary64 (pos (m / 2 ^ k * 2 ^ k))) (of_int binary64 (pos (cond t 1 0 * 2 ^ k)))) false (pick_mag (float p 0) r m) 1
    sum_is r t e =
        let q = m / 2 ^ k in
        let s : q + cond t 1 0 ≡ step r q (m % 2 ^ k) (2 ^ k) = ap (λ (z : Bool). q + cond z 1 0) e ∙ sym (step_by_up r q (m % 2 ^ k) (2 ^ k)) in
        subst (λ (z : ℕ). HasValue (add binary64 (of_int binary64 (pos (q * 2 ^ k))) (of_int binary64 (pos (cond t 1 0 * 2 ^ k)))) false z 1)
        (ap (λ (z : ℕ). z * 2 ^ k) s ∙ sym (pick_many_bits p r m k is))
        (add_exact binary64 q (cond t 1 0) k (omega (arith, shift_lt)) (carried t))

    -- what a program adds to the kept part: a unit, or 0
    added : (t : Bool) → bool_byte t * 2 ^ k % 2 ^ 64 ≡ cond t 1 0 * 2 ^ k
    added true = unit_is ∙ sym (one-mul (2 ^ k))
    added false = ap (λ (z : ℕ). z % 2 ^ 64) (zero-mul (2 ^ k)) ∙ sym (zero-mul (2 ^ k))

    pub many_bits : (r : RoundingMode) (t : Bool) (x y : Float) → t ≡ steps_up r (m / 2 ^ k) (m - m / 2 ^ k * 2 ^ k % 2 ^ 64) (1 * 2 ^ k % 2 ^ 64)
        → x ≡ of_int binary64 (pos (m / 2 ^ k * 2 ^ k % 2 ^ 64)) → y ≡ of_int binary64 (pos (bool_byte t * 2 ^ k % 2 ^ 64)) → HasValue (add binary64 x y) false (pick_mag (float p 0) r m) 1
    many_bits r t x y e ex ey =
        subst (λ (z : Float). HasValue z false (pick_mag (float p 0) r m) 1)
        (sym (ap₂ (add binary64) (ex ∙ ap (λ (z : ℕ). of_int binary64 (pos z)) kept_is) (ey ∙ ap (λ (z : ℕ). of_int binary64 (pos z)) (added t))))
        (sum_is r t (e ∙ ap₂ (λ (i j : ℕ). steps_up r (m / 2 ^ k) i j) rest_is unit_is))

    -- the tests that tell where the pick lies
    pub rest_exact : (r : RoundingMode) → eqb (m - m / 2 ^ k * 2 ^ k % 2 ^ 64) 0 ≡ eqb m (pick_mag (float p 0) r m)
    rest_exact r =
        ap (λ (x : ℕ). eqb x 0) rest_is
        ∙ sym (step_exact r (m / 2 ^ k) (m % 2 ^ k) (2 ^ k) (pow_pos k) (mod-lt m (pow_pos k)))
        ∙ ap₂ eqb (div-add-mod' m (2 ^ k)) (sym (pick_many_bits p r m k is))

    pub up_larger : (r : RoundingMode) (t : Bool) → t ≡ steps_up r (m / 2 ^ k) (m - m / 2 ^ k * 2 ^ k % 2 ^ 64) (1 * 2 ^ k % 2 ^ 64) → t ≡ ltb m (pick_mag (float p 0) r m)
    up_larger r t e =
        e
        ∙ ap₂ (λ (i j : ℕ). steps_up r (m / 2 ^ k) i j) rest_is unit_is
        ∙ sym (step_larger r (m / 2 ^ k) (m % 2 ^ k) (2 ^ k) (pow_pos k) (mod-lt m (pow_pos k)))
        ∙ ap₂ ltb (div-add-mod' m (2 ^ k)) (sym (pick_many_bits p r m k is))

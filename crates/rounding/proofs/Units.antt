-- A magnitude m × 2^e rounded to the multiples of 2^K: below that unit bits are dropped, from it on nothing is.
use mathlib.Core.Path.{◌≡◌, refl, sym, ap, ap₂, ◌∙◌}
use mathlib.Core.Bool.{Bool}
use Prim.Native.Nat.{zero, suc, min, ℕ, ◌+◌, ◌-◌, ◌*◌, ◌/◌, ◌%◌, ◌^◌, ◌≤◌, ◌<◌}
use native.Mathlib.Nat.{lt_of_lt_of_le, div-eq_of_lt, mod-eq_of_lt, mul_assoc, mul-div_cancel, zero-div, zero-mod, zero-mul}
use native.Mathlib.Omega.{arith}
use lib.Pow.{pow_pos, pow-add, pow_mono, shl_lt}
use Rattle.grid.specs.declared.RoundingMode.{RoundingMode}
use Rattle.grid.specs.Grid.{whole}
use Rattle.grid.specs.Round.{pick_mag, signed, step}
use Rattle.grid.specs.Ternary.{ternary_of}
use Rattle.grid.proofs.Kept.{pick_shift, pick_exact, pick_zero}
use Rattle.grid.proofs.Neighbours.{cut}
use Rattle.grid.proofs.Sides.{side_power, side_under}
use Rattle.grid.proofs.Step.{step_alike, step_no_rest}
use Rattle.rounding.specs.Rounding.{units_of}

-- ---- so many times 2^K, for a step at that spacing
pub over_unit : (r : RoundingMode) (K n q : ℕ) → pick_mag (whole K) r n ≡ q * 2 ^ K → units_of K r n ≡ q
over_unit r K n q e = ap (λ (z : ℕ). z / 2 ^ K) e ∙ mul-div_cancel q (pow_pos K)

pub whole_times_unit : (r : RoundingMode) (K n : ℕ) → pick_mag (whole K) r n ≡ units_of K r n * 2 ^ K
unfolding pick_mag
whole_times_unit r K n = ap (λ (z : ℕ). z * 2 ^ K) (sym (over_unit r K n _ refl))

-- ---- below 2^53, dropping 63 bits leaves what dropping more would
capped : (r : RoundingMode) (m j : ℕ) → m < 2 ^ 53 → step r (m / 2 ^ min j 63) (m % 2 ^ min j 63) (2 ^ min j 63) ≡ step r (m / 2 ^ j) (m % 2 ^ j) (2 ^ j)
capped r m j h = cut j 63
    (λ (l : j < 63). ap (λ (z : ℕ). step r (m / 2 ^ z) (m % 2 ^ z) (2 ^ z)) (omega arith))
    (λ (l : 63 ≤ j).
    let a : 2 ^ 63 ≤ 2 ^ j = pow_mono l in
    ap (λ (z : ℕ). step r (m / 2 ^ z) (m % 2 ^ z) (2 ^ z)) (most j l)
    ∙ none 63 (omega arith)
    ∙ step_alike r 0 m (2 ^ 63) m (2 ^ j) (λ e. e) (λ e. e) (λ t. omega arith) (λ t. omega arith) (λ t. absurd (omega arith)) (λ t. absurd (omega arith))
    ∙ sym (none j (omega arith)))
  where
    most : (j : ℕ) → 63 ≤ j → min j 63 ≡ 63
    most j l = omega arith

    none : (k : ℕ) → m < 2 ^ k → step r (m / 2 ^ k) (m % 2 ^ k) (2 ^ k) ≡ step r 0 m (2 ^ k)
    none k l = ap₂ (λ (a b : ℕ). step r a b (2 ^ k)) (div-eq_of_lt l) (mod-eq_of_lt l)

-- ---- the count of units
pub below_unit : (r : RoundingMode) (K m e j : ℕ) → m < 2 ^ 53 → e < K → j ≡ min (K - e) 63 → step r (m / 2 ^ j) (m % 2 ^ j) (2 ^ j) ≡ units_of K r (m * 2 ^ e)
below_unit r K zero e j h l is =
    ap₂ (λ (a b : ℕ). step r a b (2 ^ j)) (zero-div (2 ^ j)) (zero-mod (2 ^ j))
    ∙ step_no_rest r 0 (2 ^ j) (pow_pos j)
    ∙ sym (over_unit r K (0 * 2 ^ e) 0 (ap (pick_mag (whole K) r) (zero-mul (2 ^ e)) ∙ pick_zero (whole K) tt r ∙ sym (zero-mul (2 ^ K))))
below_unit r K (suc n) e j h l is =
    let m = suc n in
    ap (λ (i : ℕ). step r (m / 2 ^ i) (m % 2 ^ i) (2 ^ i)) is
    ∙ capped r m (K - e) h
    ∙ sym (over_unit r K (m * 2 ^ e) _ (pick_shift (whole K) r m e (omega arith) (omega arith)))

pub from_unit : (r : RoundingMode) (K m e : ℕ) → K ≤ e → units_of K r (m * 2 ^ e) ≡ m * 2 ^ (e - K)
from_unit r K m e l = over_unit r K (m * 2 ^ e) (m * 2 ^ (e - K)) (pick_exact (whole K) tt r m e l ∙ ap (λ (z : ℕ). m * 2 ^ z) (parts K e l) ∙ ap (λ (z : ℕ). m * z) (pow-add 2 (e - K) K) ∙ sym (mul_assoc m (2 ^ (e - K)) (2 ^ K)))
  where
    parts : (K e : ℕ) → K ≤ e → e ≡ e - K + K
    parts K e l = omega arith

-- ---- q of the units that are dropped lie beside m as q units of 2^K lie beside m × 2^e: one is the other times 2^e, or m × 2^e reaches neither
pub below_power : (m e i : ℕ) → m < 2 ^ 53 → 53 + e ≤ i → m * 2 ^ e < 2 ^ i
below_power m e i small h = lt_of_lt_of_le (shl_lt 53 e small) (pow_mono h)

pub unit_side : (neg : Bool) (K m e j q : ℕ) → m < 2 ^ 53 → e < K → j ≡ min (K - e) 63 → ternary_of (signed neg m) (signed neg (q * 2 ^ j)) ≡ ternary_of (signed neg (m * 2 ^ e)) (signed neg (q * 2 ^ K))
unit_side neg K m e j q small l is = side_power neg m q j e ∙ cut (K - e) 63
    (λ (h : K - e < 63). ap (λ (i : ℕ). ternary_of (signed neg (m * 2 ^ e)) (signed neg (q * 2 ^ i))) (omega arith))
    (λ (h : 63 ≤ K - e). side_under neg (m * 2 ^ e) q (2 ^ (j + e)) (2 ^ K) (below_power m e (j + e) small (omega arith)) (below_power m e K small (omega arith)))

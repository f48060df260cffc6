-- Rounding the bits below a float's sign as one number: an even number of units more is kept as it is, and what is rounded lies alike.
use mathlib.Core.Path.{◌≡◌, refl, sym, ap, ap₂, subst, ◌∙◌}
use mathlib.Core.Bool.{Bool, true, false, cond}
use Prim.Native.Nat.{ℕ, suc, ◌+◌, ◌-◌, ◌*◌, ◌/◌, ◌%◌, ◌^◌, ◌≤◌, ◌<◌}
use native.Mathlib.Nat.{add_left_cancel, div-add-mod', div-eq_of_lt-le, mod-lt, suc-add}
use native.Mathlib.Omega.{arith}
use lib.Dec.{ltb, eqb}
use lib.Pow.{pow_pos}
use Rattle.grid.specs.declared.RoundingMode.{RoundingMode}
use Rattle.grid.specs.declared.RoundingMode.TheVariants.{NearestEven, TowardsZero, TowardsPositive, TowardsNegative, NearestAway}
use Rattle.grid.specs.Round.{signed, step}
use Rattle.grid.specs.Ternary.{ternary_of}
use Rattle.grid.proofs.Neighbours.{as_units, pow_twice_pred}
use Rattle.grid.proofs.Sides.{side_more}

cond_add : (b : Bool) (x y c : ℕ) → cond b (x + c) (y + c) ≡ cond b x y + c
cond_add true x y c = refl
cond_add false x y c = refl

-- an even number of units more is the same number of units more
step_more : (r : RoundingMode) (q c s u : ℕ) → c % 2 ≡ 0 → step r (q + c) s u ≡ step r q s u + c
step_more NearestEven q c s u e =
    ap (λ (z : ℕ). cond (ltb (s * 2) u) (q + c) (cond (ltb u (s * 2)) z (cond (eqb ((q + c) % 2) 0) (q + c) z))) (sym (suc-add q c))
    ∙ ap (λ (z : ℕ). cond (ltb (s * 2) u) (q + c) (cond (ltb u (s * 2)) (suc q + c) (cond (eqb z 0) (q + c) (suc q + c)))) (par q c e)
    ∙ ap (λ (z : ℕ). cond (ltb (s * 2) u) (q + c) (cond (ltb u (s * 2)) (suc q + c) z)) (cond_add (eqb (q % 2) 0) q (suc q) c)
    ∙ ap (λ (z : ℕ). cond (ltb (s * 2) u) (q + c) z) (cond_add (ltb u (s * 2)) (suc q) _ c)
    ∙ cond_add (ltb (s * 2) u) q _ c
  where
    par : (q c : ℕ) → c % 2 ≡ 0 → (q + c) % 2 ≡ q % 2
    par q c e = omega arith
step_more TowardsZero q c s u e = refl
step_more TowardsPositive q c s u e = ap (λ (z : ℕ). cond (eqb s 0) (q + c) z) (sym (suc-add q c)) ∙ cond_add (eqb s 0) q (suc q) c
step_more TowardsNegative q c s u e = refl
step_more NearestAway q c s u e = ap (λ (z : ℕ). cond (ltb (s * 2) u) (q + c) z) (sym (suc-add q c)) ∙ cond_add (ltb (s * 2) u) q (suc q) c

module _ (m c u : ℕ) (h : 0 < u) where
  div_more : (c * u + m) / u ≡ m / u + c
  div_more = div-eq_of_lt-le u (omega (arith, div-add-mod' m u)) (omega (arith, div-add-mod' m u, mod-lt m h))

  mod_more : (c * u + m) % u ≡ m % u
  mod_more = add_left_cancel ((c * u + m) / u * u) (div-add-mod' (c * u + m) u ∙ let e = ap (λ (z : ℕ). z * u) div_more in omega (arith, div-add-mod' m u, e))

  joined : (r : RoundingMode) → c % 2 ≡ 0 → step r ((c * u + m) / u) ((c * u + m) % u) u ≡ step r (m / u) (m % u) u + c
  joined r e = ap₂ (λ (x y : ℕ). step r x y u) div_more mod_more ∙ step_more r (m / u) c (m % u) u e

-- ---- y fields of d bits in front of m, of which j bits are dropped
-- fields with bits kept below them are an even number of units
pub fields_even : (a k : ℕ) → 0 < k → a * 2 ^ k % 2 ≡ 0
fields_even a k h = ap (λ (z : ℕ). a * z % 2) (pow_twice_pred k h) ∙ twice a (2 ^ (k - 1))
  where
    twice : (a b : ℕ) → a * (2 * b) % 2 ≡ 0
    twice a b = omega arith

pub carried : (d j y : ℕ) → j ≤ d → (r : RoundingMode) (x m : ℕ) → y * 2 ^ d + m ≡ x → y * 2 ^ (d - j) % 2 ≡ 0 → step r (x / 2 ^ j) (x % 2 ^ j) (2 ^ j) ≡ step r (m / 2 ^ j) (m % 2 ^ j) (2 ^ j) + y * 2 ^ (d - j)
carried d j y within r x m is even = subst (λ (z : ℕ). step r (z / 2 ^ j) (z % 2 ^ j) (2 ^ j) ≡ step r (m / 2 ^ j) (m % 2 ^ j) (2 ^ j) + y * 2 ^ (d - j)) (ap (λ (z : ℕ). z + m) (sym (as_units y d j within)) ∙ is) (joined m (y * 2 ^ (d - j)) (2 ^ j) (pow_pos j) r even)

pub carried_side : (d j y : ℕ) → j ≤ d → (neg : Bool) (r : RoundingMode) (x m : ℕ) → y * 2 ^ d + m ≡ x → y * 2 ^ (d - j) % 2 ≡ 0
    → ternary_of (signed neg x) (signed neg (step r (x / 2 ^ j) (x % 2 ^ j) (2 ^ j) * 2 ^ j)) ≡ ternary_of (signed neg m) (signed neg (step r (m / 2 ^ j) (m % 2 ^ j) (2 ^ j) * 2 ^ j))
carried_side d j y within neg r x m is even =
    let q = step r (m / 2 ^ j) (m % 2 ^ j) (2 ^ j) in
    ap₂ (λ (a b : ℕ). ternary_of (signed neg a) (signed neg b)) (sym is)
    (ap (λ (z : ℕ). z * 2 ^ j) (carried d j y within r x m is even) ∙ apart q (y * 2 ^ (d - j)) (2 ^ j) ∙ ap (λ (z : ℕ). z + q * 2 ^ j) (sym (as_units y d j within)))
    ∙ side_more neg m (q * 2 ^ j) (y * 2 ^ d)
  where
    apart : (a b c : ℕ) → (a + b) * c ≡ b * c + a * c
    apart a b c = omega arith

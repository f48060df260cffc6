-- The pick of m * 2 ^ e from m's own bits: what a program computes.
use mathlib.Core.Path.{◌≡◌, refl, sym, ap, ◌∙◌, subst}
use mathlib.Core.Bool.{Bool, true, false}
use Prim.Native.Nat.{ℕ, zero, suc, ◌+◌, ◌-◌, ◌*◌, ◌/◌, ◌%◌, ◌^◌, ◌≤◌, ◌<◌, max}
use native.Mathlib.Nat.{le_trans, le_of_eq, lt_of_lt_of_le, div-add-mod', mul-div-mul_right, mul-le-mul_right, mul-lt-mul_of_pos_right, lt_of_mul-lt-mul_right, mul_right_comm, mul-pos, add_left_cancel, le_antisymm, zero-mul}
use native.Mathlib.Omega.{arith}
use lib.Ieee.{size}
use lib.Ieee.Digits.{size-lt, size-le, size_reaches}
use lib.IntN.{pos, neg_ℤ, nat_abs}
use lib.Pow.{pow_pos, pow_mono, pow-add, shl_lt}
use Rattle.grid.specs.declared.RoundingMode.{RoundingMode}
use Rattle.grid.specs.Grid.{Grid, whole, float, OnMag, Sound}
use Rattle.grid.specs.Round.{unit_exp, step, pick_mag, pick, flip, signed, rule_for}
use Rattle.grid.proofs.Neighbours.{cut, pow_split, as_units}
use Rattle.grid.proofs.Picked.{picked_pos}
use Rattle.grid.proofs.Order.{zero_on}
use Rattle.grid.proofs.Step.{step_alike}

-- ---- a step does not see the scale
step_scale : (r : RoundingMode) (q x b c : ℕ) → 0 < c → step r q (x * c) (b * c) ≡ step r q x b
step_scale r q x b c h =
    step_alike r q (x * c) (b * c) x b (none x) (λ (e : x ≡ 0). ap (λ (z : ℕ). z * c) e ∙ zero-mul c)
    (λ l. lt_of_mul-lt-mul_right c (subst (λ (z : ℕ). z < b * c) twice l))
    (λ l. subst (λ (z : ℕ). z < b * c) (sym twice) (mul-lt-mul_of_pos_right l h))
    (λ l. lt_of_mul-lt-mul_right c (subst (λ (z : ℕ). b * c < z) twice l))
    (λ l. subst (λ (z : ℕ). b * c < z) (sym twice) (mul-lt-mul_of_pos_right l h))
  where
    twice : x * c * 2 ≡ x * 2 * c
    twice = mul_right_comm x c 2

    none : (x : ℕ) → x * c ≡ 0 → x ≡ 0
    none zero e = refl
    none (suc x) e = absurd (omega (arith, mul-pos {m = suc x} (omega arith) h))

-- ---- quotient and remainder of a scaled number
mod_scale : (a b c : ℕ) → 0 < c → a * c % (b * c) ≡ a % b * c
mod_scale a b c h =
    add_left_cancel (a / b * (b * c))
    (ap (λ (x : ℕ). x * (b * c) + a * c % (b * c)) (sym (mul-div-mul_right a b h)) ∙ div-add-mod' (a * c) (b * c) ∙ ap (λ (x : ℕ). x * c) (sym (div-add-mod' a b)) ∙ omega arith)

scaled : (g : Grid) (r : RoundingMode) (a b c : ℕ) → 0 < c → 2 ^ unit_exp g (a * c) ≡ b * c → pick_mag g r (a * c) ≡ step r (a / b) (a % b) b * (b * c)
unfolding pick_mag
scaled g r a b c h e = rw (e, mul-div-mul_right a b h, mod_scale a b c h, step_scale r (a / b) (a % b) b c h)

-- ---- how many bits m * 2 ^ t has
pub size_pos : (m : ℕ) → 0 < m → 0 < size m
size_pos m h = cut 0 (size m) (λ l. l) (λ (l : size m ≤ 0). absurd (omega (arith, size-lt m, pow_mono l)))

pub size_shift : (m t : ℕ) → 0 < m → size (m * 2 ^ t) ≡ size m + t
size_shift m t h = le_antisymm (size-le (m * 2 ^ t) (size m + t) (shl_lt (size m) t (size-lt m)))
    (cut (size (m * 2 ^ t)) (size m + t)
    (λ (l : size (m * 2 ^ t) < size m + t).
    let a : 2 ^ (size m - 1 + t) ≤ m * 2 ^ t = le_trans (le_of_eq (pow-add 2 (size m - 1) t)) (mul-le-mul_right (2 ^ t) (size_reaches m (size m - 1) (omega (arith, size_pos m h)))) in
    let b : 2 ^ size (m * 2 ^ t) ≤ 2 ^ (size m - 1 + t) = pow_mono (omega (arith, size_pos m h)) in
    absurd (omega (arith, size-lt (m * 2 ^ t))))
    (λ l. l))

-- ---- the exponent of the spacing at m * 2 ^ e
abbrev pub unit_at : Grid → ℕ → ℕ → ℕ
unit_at (whole k) m e = k
unit_at (float p s) m e = max s (size m + e - p)

unit_is : (g : Grid) (m e : ℕ) → 0 < m → unit_exp g (m * 2 ^ e) ≡ unit_at g m e
unit_is (whole k) m e h = refl
unit_is (float p s) m e h = rw (size_shift m e h)

-- where the spacing is coarser: m's bits above k - e, stepped by those below
pub pick_shift : (g : Grid) (r : RoundingMode) (m e : ℕ) → 0 < m → e ≤ unit_at g m e
    → pick_mag g r (m * 2 ^ e) ≡ step r (m / 2 ^ (unit_at g m e - e)) (m % 2 ^ (unit_at g m e - e)) (2 ^ (unit_at g m e - e)) * 2 ^ unit_at g m e
pick_shift g r m e h l =
    let k = unit_at g m e in
    let a = pow_split k e l in
    scaled g r m (2 ^ (k - e)) (2 ^ e) (pow_pos e) (ap (λ (x : ℕ). 2 ^ x) (unit_is g m e h) ∙ a)
    ∙ ap (λ (x : ℕ). step r (m / 2 ^ (k - e)) (m % 2 ^ (k - e)) (2 ^ (k - e)) * x) (sym a)

-- where it is not, the number is on the grid
on_fine : (g : Grid) (m e : ℕ) → unit_at g m e ≤ e → OnMag g (m * 2 ^ e)
on_fine (whole k) m e l = record { m = m * 2 ^ (e - k); e = k; written = (refl, as_units m e k l) }
on_fine (float p s) m e l = record { m = m; e = e; written = (lt_of_lt_of_le (size-lt m) (pow_mono (omega arith)), omega arith, refl) }

pub pick_exact : (g : Grid) → Sound g → (r : RoundingMode) (m e : ℕ) → unit_at g m e ≤ e → pick_mag g r (m * 2 ^ e) ≡ m * 2 ^ e
pick_exact g ok r m e l = ap nat_abs ((picked_pos g ok r (m * 2 ^ e)).itself (on_fine g m e l))

-- ---- a sign and a magnitude

pub pick_zero : (g : Grid) → Sound g → (r : RoundingMode) → pick_mag g r 0 ≡ 0
pick_zero g ok r = ap nat_abs ((picked_pos g ok r 0).itself (zero_on g))

pub pick_signed : (g : Grid) → Sound g → (r : RoundingMode) (s : Bool) (n : ℕ) → pick g r (signed s n) ≡ signed s (pick_mag g (rule_for s r) n)
unfolding pick
pick_signed g ok r false n = refl
pick_signed g ok r true zero = ap pos (pick_zero g ok r) ∙ sym (ap (λ (n : ℕ). neg_ℤ (pos n)) (pick_zero g ok (flip r)))
pick_signed g ok r true (suc n) = refl

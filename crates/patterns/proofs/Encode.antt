-- q units of 2 ^ (k + s) have the bits k * 2 ^ (p - 1) + q. And the bits are in the order of the magnitudes.
use mathlib.Core.Path.{◌≡◌, refl, sym, ap, ap₂, ◌∙◌}
use Prim.Native.Nat.{ℕ, zero, suc, ◌+◌, ◌-◌, ◌*◌, ◌/◌, ◌%◌, ◌^◌, ◌≤◌, ◌<◌}
use native.Mathlib.Decide.{le_ind}
use native.Mathlib.Nat.{le_refl, le_of_eq, lt_of_lt_of_le, lt_of_le_of_lt, mul-lt-mul_of_pos_right, div-add-mod', mod-lt, zero-add, suc-add, lt_trans, zero-mul, le_antisymm, le_of_lt, pow-succ'}
use native.Mathlib.Omega.{arith}
use lib.Arith.{digits_div, digits_mod}
use lib.Pow.{pow_pos}
use Rattle.patterns.specs.Float.{field_mag, bits_mag}
use Rattle.grid.proofs.Neighbours.{cut, pow_twice_pred}

-- bits given as field and fraction
fields : (p s x t b : ℕ) → t < 2 ^ (p - 1) → b ≡ x * 2 ^ (p - 1) + t → bits_mag p s b ≡ field_mag p s x t
unfolding bits_mag
fields p s x t b h e = ap₂ (field_mag p s) (ap (λ (z : ℕ). z / 2 ^ (p - 1)) e ∙ digits_div x h) (ap (λ (z : ℕ). z % 2 ^ (p - 1)) e ∙ digits_mod x h)

low_bits : (p s k q : ℕ) → 2 ^ (p - 1) ≤ q → q < 2 ^ (p - 1) + 2 ^ (p - 1) → bits_mag p s (k * 2 ^ (p - 1) + q) ≡ q * 2 ^ (k + s)
unfolding field_mag
low_bits p s k q l h = fields p s (suc k) (q - 2 ^ (p - 1)) (k * 2 ^ (p - 1) + q) (omega arith) (omega arith) ∙ ap (λ (z : ℕ). z * 2 ^ (k + s)) (omega arith)

pub encode : (p s k q : ℕ) → 0 < p → q ≤ 2 ^ p → (0 < k → 2 ^ (p - 1) ≤ q) → bits_mag p s (k * 2 ^ (p - 1) + q) ≡ q * 2 ^ (k + s)
unfolding field_mag
encode p s k q P small full = cut q (2 ^ (p - 1))
    (λ (h : q < 2 ^ (p - 1)).
    let z : k ≡ 0 = cut 0 k (λ (l : 0 < k). absurd (omega (arith, full l))) (λ (l : k ≤ 0). omega arith) in
    ap (λ (i : ℕ). bits_mag p s (i * 2 ^ (p - 1) + q)) z ∙ fields p s 0 q (0 * 2 ^ (p - 1) + q) h refl ∙ ap (λ (i : ℕ). q * 2 ^ i) (sym (zero-add s) ∙ ap (λ (i : ℕ). i + s) (sym z)))
    (λ (h : 2 ^ (p - 1) ≤ q). cut q (2 ^ (p - 1) + 2 ^ (p - 1))
    (λ (l : q < 2 ^ (p - 1) + 2 ^ (p - 1)). low_bits p s k q h l)
    (λ (l : 2 ^ (p - 1) + 2 ^ (p - 1) ≤ q).
    let a = pow_twice_pred p P in
    let e : q ≡ 2 * 2 ^ (p - 1) = omega arith in
    ap (bits_mag p s) (omega arith) ∙ low_bits p s (suc k) (2 ^ (p - 1)) (le_refl (2 ^ (p - 1))) (omega (arith, pow_pos (p - 1)))
    ∙ twice (2 ^ (p - 1)) (k + s) (suc k + s) (omega arith) ∙ ap (λ (z : ℕ). z * 2 ^ (k + s)) (sym e)))
  where
    twice : (h i j : ℕ) → j ≡ suc i → h * 2 ^ j ≡ 2 * h * 2 ^ i
    twice h i j e = ap (λ (z : ℕ). h * 2 ^ z) e ∙ omega (arith, ap (λ (z : ℕ). h * z) (pow-succ' 2 i))

pub zero_bits : (p s : ℕ) → 2 ≤ p → bits_mag p s 0 ≡ 0
zero_bits p s two = ap (bits_mag p s) (sym (none (2 ^ (p - 1)))) ∙ encode p s 0 0 (omega arith) (omega arith) (λ (h : 0 < 0). absurd (omega arith)) ∙ zero-mul (2 ^ (0 + s))
  where
    none : (h : ℕ) → 0 * h + 0 ≡ 0
    none h = omega arith

-- bits whose exponent field is not 0
pub normal_bits : (p s x y : ℕ) → x / 2 ^ (p - 1) ≡ suc y → bits_mag p s x ≡ (2 ^ (p - 1) + x % 2 ^ (p - 1)) * 2 ^ (y + s)
unfolding bits_mag field_mag
normal_bits p s x y e = ap (λ (f : ℕ). field_mag p s f (x % 2 ^ (p - 1))) e

-- ---- the bits are in the order of the magnitudes
inner : (p s x t : ℕ) → field_mag p s x t < field_mag p s x (suc t)
unfolding field_mag
inner p s zero t = mul-lt-mul_of_pos_right (omega arith) (pow_pos s)
inner p s (suc x) t = mul-lt-mul_of_pos_right (omega arith) (pow_pos (x + s))

outer : (p s x t : ℕ) → suc t ≡ 2 ^ (p - 1) → field_mag p s x t < field_mag p s (suc x) 0
unfolding field_mag
outer p s zero t e = lt_of_lt_of_le (mul-lt-mul_of_pos_right {n = 2 ^ (p - 1) + 0} (omega arith) (pow_pos s)) (le_of_eq (ap (λ (z : ℕ). (2 ^ (p - 1) + 0) * 2 ^ z) (sym (zero-add s))))
outer p s (suc x) t e =
    lt_of_lt_of_le (mul-lt-mul_of_pos_right {n = 2 * (2 ^ (p - 1) + 0)} (omega arith) (pow_pos (x + s)))
    (le_of_eq (sym (ap (λ (z : ℕ). (2 ^ (p - 1) + 0) * 2 ^ z) (suc-add x s) ∙ omega (arith, ap (λ (z : ℕ). (2 ^ (p - 1) + 0) * z) (pow-succ' 2 (x + s))))))

next_bits : (p s b : ℕ) → bits_mag p s b < bits_mag p s (suc b)
next_bits p s b =
    let h = 2 ^ (p - 1) in
    let x = b / h in
    let t = b % h in
    let e : b ≡ x * h + t = sym (div-add-mod' b h) in
    let l : t < h = mod-lt b (pow_pos (p - 1)) in
    lt_of_le_of_lt (le_of_eq (fields p s x t b l e))
    (cut (suc t) h
    (λ (u : suc t < h). lt_of_lt_of_le (inner p s x t) (le_of_eq (sym (fields p s x (suc t) (suc b) u (omega arith)))))
    (λ (u : h ≤ suc t). lt_of_lt_of_le (outer p s x t (omega arith)) (le_of_eq (sym (fields p s (suc x) 0 (suc b) (pow_pos (p - 1)) (omega arith))))))

pub bits_mono : (p s a b : ℕ) → a < b → bits_mag p s a < bits_mag p s b
bits_mono p s a b h = le_ind (λ (z : ℕ). bits_mag p s a < bits_mag p s z) (next_bits p s a) (λ m l ih. lt_trans ih (next_bits p s m)) b h

pub bits_mono_le : (p s a b : ℕ) → a ≤ b → bits_mag p s a ≤ bits_mag p s b
bits_mono_le p s a b h = cut a b (λ (l : a < b). le_of_lt (bits_mono p s a b l)) (λ (l : b ≤ a). le_of_eq (ap (bits_mag p s) (le_antisymm h l)))

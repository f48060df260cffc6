-- The fields of a pattern: by shifts and masks, and the magnitude by them, for any precision, exponent width and spacing.
use mathlib.Core.Path.{◌≡◌, sym, ap, ap₂, ◌∙◌}
use Prim.Native.Nat.{ℕ, ◌+◌, ◌-◌, ◌*◌, ◌/◌, ◌%◌, ◌^◌, ◌≤◌, ◌<◌}
use native.Mathlib.Nat.{div-eq_of_lt, div-eq_of_lt-le, mod-lt, le_antisymm, lt_of_lt_of_le}
use native.Mathlib.Omega.{arith}
use lib.Arith.{digits_lt}
use lib.Bits.{bit_and, and_mask}
use lib.Dec.{eqb, leb}
use lib.Pow.{pow_pos, mod-pow-add, field, mod-mod-pow}
use borrow.Author.Tests.{le-leb, lt-leb, eq-eqb, ne_eqb}
use Rattle.grid.proofs.Neighbours.{cut, pow_twice_pred}
use Rattle.patterns.specs.Float.{field_mag, bits_mag, inf_bits}
use Rattle.float_fields.specs.Parts.{field_of, fraction_of, parts_of}
use Rattle.float_fields.specs.declared.Parts.{Parts}

-- of a number below 2 t, the quotient by t is 1 exactly where the number is at least t
pub sign_bit : (b t : ℕ) → b < 2 * t → eqb (b / t) 1 ≡ leb t b
sign_bit b t h = cut b t
    (λ (l : b < t). ne_eqb (b / t) 1 (λ (e : b / t ≡ 1). omega (arith, div-eq_of_lt l)) ∙ sym (lt-leb t b l))
    (λ (l : t ≤ b). eq-eqb (b / t) 1 (div-eq_of_lt-le t (omega arith) (omega arith)) ∙ sym (le-leb t b l))

-- ---- shifts and masks
pub parts_is : (p w b : ℕ) → 0 < p → b < 2 ^ (w + p)
    → ◌≡◌ {A = Parts} (record { negative = eqb (b / 2 ^ (w + (p - 1))) 1; exponent = bit_and (b / 2 ^ (p - 1)) (2 ^ w - 1); fraction = bit_and b (2 ^ (p - 1) - 1) }) (parts_of p w b)
parts_is p w b some h =
    let top : w + (p - 1) ≡ w + p - 1 = omega arith in
    simp (top, sign_bit b (2 ^ (w + p - 1)) (lt_of_lt_of_le h (omega (arith, pow_twice_pred (w + p) (omega arith)))), and_mask (b / 2 ^ (p - 1)) w, and_mask b (p - 1))

-- ---- the bits below the sign are the field over the fraction
module _ (p w b : ℕ) (some : 0 < p) where
  below_sign : w + p - 1 ≡ w + (p - 1)
  below_sign = omega arith

  pub split_bits : b % 2 ^ (w + p - 1) ≡ field_of p w b * 2 ^ (p - 1) + fraction_of p b
  split_bits = ap (λ (z : ℕ). b % 2 ^ z) below_sign ∙ mod-pow-add b w (p - 1)

  -- "tied to sums of powers of two in the definition of a float's value"
  pub fields_mag : (s : ℕ) → bits_mag p s (b % 2 ^ (w + p - 1)) ≡ field_mag p s (field_of p w b) (fraction_of p b)
  unfolding bits_mag
  fields_mag s = ap₂ (field_mag p s)
      (ap (λ (z : ℕ). b % 2 ^ z / 2 ^ (p - 1)) below_sign ∙ field b w (p - 1))
      (ap (λ (z : ℕ). b % 2 ^ z % 2 ^ (p - 1)) below_sign ∙ mod-mod-pow b w (p - 1))

  pub field_le : field_of p w b ≤ 2 ^ w - 1
  field_le = omega (arith, mod-lt (b / 2 ^ (p - 1)) (pow_pos w))

  pub fraction_lt : fraction_of p b < 2 ^ (p - 1)
  fraction_lt = mod-lt b (pow_pos (p - 1))

  -- below the field of ones, the number is finite
  pub finite_bits_lem : field_of p w b < 2 ^ w - 1 → b % 2 ^ (w + p - 1) < inf_bits p w
  finite_bits_lem l = lt_of_lt_of_le (omega (arith, split_bits)) (digits_lt l fraction_lt)

  ones_bits : 2 ^ w - 1 ≤ field_of p w b → b % 2 ^ (w + p - 1) ≡ inf_bits p w + fraction_of p b
  ones_bits l = split_bits ∙ ap (λ (z : ℕ). z * 2 ^ (p - 1) + fraction_of p b) (le_antisymm field_le l)

  -- at the field of ones it is infinite with fraction 0, else a NaN
  pub infinite_bits : 2 ^ w - 1 ≤ field_of p w b → fraction_of p b ≡ 0 → b % 2 ^ (w + p - 1) ≡ inf_bits p w
  infinite_bits l e = omega (arith, ones_bits l)

  pub nan_bits : 2 ^ w - 1 ≤ field_of p w b → (fraction_of p b ≡ 0 → ⊥) → inf_bits p w < b % 2 ^ (w + p - 1)
  nan_bits l e = omega (arith, ones_bits l)

-- from the three fields, whoever took them apart
module _ (p w b : ℕ) {q : Parts} (is : q ≡ parts_of p w b) where
  pub exponent_is : q.exponent ≡ field_of p w b
  exponent_is = ap (λ (z : Parts). z.exponent) is

  pub fraction_is : q.fraction ≡ fraction_of p b
  fraction_is = ap (λ (z : Parts). z.fraction) is

  pub fraction_small : 0 < p → q.fraction < 2 ^ (p - 1)
  fraction_small some = omega (arith, fraction_is, fraction_lt p w b some)

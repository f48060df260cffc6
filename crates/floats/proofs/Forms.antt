-- A float element by sign and class: the form of a pattern by its fields, for any format, and a NaN's fraction in f64.
use mathlib.Core.Path.{◌≡◌, refl, sym, ap, ap₂, subst, ◌∙◌}
use mathlib.Core.Bool.{Bool, true, false}
use Prim.Native.Nat.{ℕ, suc, ◌+◌, ◌-◌, ◌*◌, ◌/◌, ◌%◌, ◌^◌, ◌≤◌, ◌<◌}
use native.Mathlib.Nat.{add_comm, le_of_eq, le_trans, lt_of_lt_of_le, mod-lt, mul_assoc, mul-le-mul_right}
use native.Mathlib.Omega.{arith}
use lib.Dec.{lit<}
use lib.Pow.{pow_mono, pow-add, shl_lt}
use borrow.Author.Tests.{eq-eqb, ne_eqb}
use Rattle.grid.specs.Round.{signed}
use Rattle.grid.proofs.Neighbours.{cut, pow_twice_pred}
use Rattle.patterns.specs.Float.{bits_mag, field_mag, inf_bits}
use Rattle.patterns.specs.Kind.{Kind, binary, f64}
use Rattle.patterns.specs.Value.{Value, nan, inf, num, negative, value_of}
use Rattle.patterns.specs.Pattern.{nan_pattern, quiet, with_sign}
use Rattle.patterns.proofs.Floats.{is_num, is_inf, is_nan, abs_signed}
use Rattle.float_fields.specs.Parts.{parts_of}
use Rattle.float_fields.specs.declared.Parts.{Parts}
use Rattle.float_fields.proofs.Fields.{exponent_is, fraction_is, fraction_small, fields_mag, finite_bits_lem, infinite_bits, nan_bits}
use Rattle.scaled.specs.Scaled.{scaled_of}
use Rattle.scaled.specs.declared.Scaled.{Scaled}
use Rattle.scaled.proofs.Magnitudes.{scaled_only}
use Rattle.floats.specs.Form.{class_for, float_of, finite_float, infinite_or_nan}
use Rattle.floats.specs.declared.Class.{Class}
use Rattle.floats.specs.declared.Class.TheVariants.{Finite, Infinite, NotANumber}
use Rattle.floats.specs.declared.Float.{Float}

-- ---- the magnitude of an exponent field
pub subnormal_mag : (p s x t : ℕ) → x ≡ 0 → field_mag p s x t ≡ t * 2 ^ s
unfolding field_mag
subnormal_mag p s x t e = ap (λ (z : ℕ). field_mag p s z t) e

pub normal_mag : (p s x t : ℕ) → 0 < x → field_mag p s x t ≡ (2 ^ (p - 1) + t) * 2 ^ (x - 1 + s)
unfolding field_mag
normal_mag p s x t h = ap (λ (z : ℕ). field_mag p s z t) (back x h)
  where
    back : (x : ℕ) → 0 < x → x ≡ suc (x - 1)
    back x h = omega arith

-- a leading bit over p - 1 bits t, with d bits more of precision
pub normal_scaled : (p s d x t e : ℕ) → 0 < p → p + d ≡ 53 → 0 < x → e + d ≡ x - 1 + s → t < 2 ^ (p - 1) → record { significand = (2 ^ (p - 1) + t) * 2 ^ d; exponent = e } ≡ scaled_of (field_mag p s x t)
normal_scaled p s d x t e some fill h is small =
    scaled_only ((2 ^ (p - 1) + t) * 2 ^ d) e
    (lt_of_lt_of_le (shl_lt p d (omega (arith, pow_twice_pred p some))) (le_of_eq (ap (λ (z : ℕ). 2 ^ z) fill)))
    (λ _. le_trans (le_of_eq (ap (λ (z : ℕ). 2 ^ z) (top p d some fill) ∙ pow-add 2 (p - 1) d)) (mul-le-mul_right (2 ^ d) (omega arith)))
    ∙ ap scaled_of (mul_assoc (2 ^ (p - 1) + t) (2 ^ d) (2 ^ e) ∙ ap (λ (z : ℕ). (2 ^ (p - 1) + t) * z) (sym (pow-add 2 d e)) ∙ ap (λ (z : ℕ). (2 ^ (p - 1) + t) * 2 ^ z) (add_comm d e ∙ is) ∙ sym (normal_mag p s x t h))
  where
    top : (p d : ℕ) → 0 < p → p + d ≡ 53 → 52 ≡ p - 1 + d
    top p d some fill = omega arith

-- ---- the form of a pattern, from its three fields, whoever took them apart
module _ (p w s b : ℕ) (two : 2 ≤ p) (some : 0 < w) {q : Parts} (is : q ≡ parts_of p w b) where
  abbrev k : Kind
  k = binary p w s

  P : 0 < p
  P = omega arith

  formed : (c : Class) (v : Value) → value_of k b ≡ v → c ≡ class_for k b v → record { negative = q.negative; class = c } ≡ float_of k b
  formed c v e f = ap₂ {C = Float} (λ (n : Bool) (z : Class). record { negative = n; class = z }) (ap (λ (z : Parts). z.negative) is) (f ∙ ap (class_for k b) (sym e))

  pub finite_form : (m e : ℕ) → q.exponent < 2 ^ w - 1 → record { significand = m; exponent = e } ≡ scaled_of (field_mag p s q.exponent q.fraction) → finite_float q.negative m e ≡ float_of k b
  unfolding value_of
  finite_form m e l f =
      let n = bits_mag p s (b % 2 ^ (w + p - 1)) in
      formed (Finite (record { significand = m; exponent = e })) (num (signed (negative k b) n))
      (is_num p w s (negative k b) (b % 2 ^ (w + p - 1)) (finite_bits_lem p w b P (subst (λ (z : ℕ). z < 2 ^ w - 1) (exponent_is p w b is) l)))
      (ap Finite (f ∙ ap scaled_of (ap₂ (field_mag p s) (exponent_is p w b is) (fraction_is p w b is) ∙ sym (fields_mag p w b P s) ∙ sym (abs_signed (negative k b) n))))

  pub subnormal_form : (m e : ℕ) → q.exponent ≡ 0 → record { significand = m; exponent = e } ≡ scaled_of (q.fraction * 2 ^ s) → finite_float q.negative m e ≡ float_of k b
  subnormal_form m e z f = finite_form m e (omega (arith, pow_mono {i = 1} {j = w} some)) (f ∙ ap scaled_of (sym (subnormal_mag p s q.exponent q.fraction z)))

  -- with d bits more of precision
  pub normal_form : (d m e : ℕ) → p + d ≡ 53 → 0 < q.exponent → q.exponent < 2 ^ w - 1 → e + d ≡ q.exponent - 1 + s → m ≡ (2 ^ (p - 1) + q.fraction) * 2 ^ d → finite_float q.negative m e ≡ float_of k b
  normal_form d m e fill h l g f = finite_form m e l (ap {B = Scaled} (λ (z : ℕ). record { significand = z; exponent = e }) f ∙ normal_scaled p s d q.exponent q.fraction e P fill h g (fraction_small p w b is P))

  pub special_form : (u : ℕ) → 2 ^ w - 1 ≤ q.exponent → u ≡ nan_pattern k 53 11 b % 2 ^ 52 → infinite_or_nan q.negative q.fraction u ≡ float_of k b
  unfolding value_of
  special_form u l f = cut 0 q.fraction
      (λ (h : 0 < q.fraction).
      let n : q.fraction ≡ 0 → ⊥ = λ e. omega arith in
      simp (ne_eqb q.fraction 0 n) (formed (NotANumber u) nan (is_nan p w s (negative k b) _ (nan_bits p w b P L (λ e. n (fraction_is p w b is ∙ e)))) (ap NotANumber f)))
      (λ (h : q.fraction ≤ 0).
      let z : q.fraction ≡ 0 = omega arith in
      simp (eq-eqb q.fraction 0 z) (formed Infinite (inf (negative k b)) (is_inf p w s (negative k b) _ (infinite_bits p w b P L (sym (fraction_is p w b is) ∙ z))) refl))
    where
      L : 2 ^ w - 1 ≤ b / 2 ^ (p - 1) % 2 ^ w
      L = subst (λ (z : ℕ). 2 ^ w - 1 ≤ z) (exponent_is p w b is) l

-- ---- a NaN's fraction in f64

pub own_fraction : (b : ℕ) → b % 2 ^ 52 ≡ nan_pattern f64 53 11 b % 2 ^ 52
unfolding nan_pattern
own_fraction b = refl

pub quiet_fraction : (p w s b : ℕ) → (p ≡ 53 → ⊥) → quiet p 53 b ≡ nan_pattern (binary p w s) 53 11 b % 2 ^ 52
unfolding nan_pattern
quiet_fraction p w s b n = simp (ne_eqb p 53 n) (low (negative (binary p w s) b) (quiet p 53 b) (omega (arith, mod-lt (b % 2 ^ (p - 1) * 2 ^ 52 / 2 ^ (p - 1)) {m = 2 ^ 51} (lit< tt))))
  where
    low : (neg : Bool) (q : ℕ) → q < 2 ^ 52 → q ≡ with_sign 64 neg (inf_bits 53 11 + q) % 2 ^ 52
    low true q h = omega arith
    low false q h = omega arith

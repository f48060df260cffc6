-- A float read by its fields as those of an f32: the form that they give, for f32 and any format narrower than it.
use mathlib.Core.Path.{◌≡◌, refl, sym, ap, ◌∙◌}
use mathlib.Core.Bool.{Bool}
use Prim.Native.Nat.{ℕ, ◌+◌, ◌-◌, ◌*◌, ◌%◌, ◌^◌, ◌≤◌, ◌<◌}
use native.Mathlib.Nat.{mul-pos, zero-mul}
use native.Mathlib.Omega.{arith}
use lib.Pow.{pow_pos}
use borrow.Author.Tests.{ne_eqb}
use Rattle.grid.proofs.Neighbours.{cut}
use Rattle.patterns.specs.Kind.{binary}
use Rattle.float_fields.specs.Parts.{fraction_of}
use Rattle.float_fields.specs.Widened.{Widens, widened_of}
use Rattle.float_fields.specs.declared.Widened.{Widened}
use Rattle.float_fields.proofs.Widenings.{exponent_of, fraction_of_lem, negative_of, quieted, same_magnitude, same_quiet, same_significand}
use Rattle.scaled.specs.Scaled.{scaled_of}
use Rattle.scaled.specs.declared.Scaled.{Scaled}
use Rattle.floats.specs.Form.{finite_float, float_of, infinite_or_nan}
use Rattle.floats.proofs.Forms.{subnormal_form, normal_form, special_form, quiet_fraction}

-- ---- the element
module _ (p w s b : ℕ) (format : Widens p w s) (f : Widened) (is : f ≡ widened_of p w s b) where
  abbrev d : ℕ
  d = 24 - p

  abbrev t : ℕ
  t = fraction_of p b

  pub widened_subnormal : f.exponent ≡ 0 → (x : Scaled) → x ≡ scaled_of (f.fraction * 2 ^ f.spacing) → finite_float f.negative x.significand x.exponent ≡ float_of (binary p w s) b
  widened_subnormal e x g =
      ap (λ (n : Bool). finite_float n x.significand x.exponent) (negative_of p w s b format f is)
      ∙ subnormal_form p w s b format.two format.positive refl x.significand x.exponent ((exponent_of p w s b format f is).zero_of e) (g ∙ ap scaled_of (same_magnitude p w s b format f is))

  pub widened_normal : 0 < f.exponent → f.exponent < 255 → finite_float f.negative ((2 ^ 23 + f.fraction) * 2 ^ 29 % 2 ^ 64) (f.exponent + 895) ≡ float_of (binary p w s) b
  widened_normal h l =
      let r = (exponent_of p w s b format f is).between h l in
      ap (λ (n : Bool). finite_float n ((2 ^ 23 + f.fraction) * 2 ^ 29 % 2 ^ 64) (f.exponent + 895)) (negative_of p w s b format f is)
      ∙ normal_form p w s b format.two format.positive refl (53 - p) _ (f.exponent + 895) (omega (arith, format.at_most_24)) r.0 r.1 (omega (arith, r.2, r.0, format.start, format.at_most_24)) (same_significand p w s b format f is)

  -- the fraction at the top is 0 where the fraction is
  same_special : (neg : Bool) (u : ℕ) → infinite_or_nan neg f.fraction u ≡ infinite_or_nan neg t u
  same_special neg u = ap (λ (z : ℕ). infinite_or_nan neg z u) (fraction_of_lem p w s b format f is) ∙ cut 0 t
      (λ (h : 0 < t). simp (ne_eqb t 0 (λ (e : t ≡ 0). omega arith), ne_eqb (t * 2 ^ d) 0 (λ (e : t * 2 ^ d ≡ 0). omega (arith, mul-pos h (pow_pos d)))))
      (λ (h : t ≤ 0). ap (λ (z : ℕ). infinite_or_nan neg z u) (ap (λ (z : ℕ). z * 2 ^ d) (none h) ∙ zero-mul (2 ^ d) ∙ sym (none h)))
    where
      none : {n : ℕ} → n ≤ 0 → n ≡ 0
      none h = omega arith

  pub widened_special : 255 ≤ f.exponent → infinite_or_nan f.negative f.fraction (quieted p w s b format f is) ≡ float_of (binary p w s) b
  widened_special h =
      same_special f.negative (quieted p w s b format f is)
      ∙ ap (λ (n : Bool). infinite_or_nan n t (quieted p w s b format f is)) (negative_of p w s b format f is)
      ∙ special_form p w s b format.two format.positive refl (quieted p w s b format f is) ((exponent_of p w s b format f is).ones h) (same_quiet p w s b format f is ∙ quiet_fraction p w s b (λ (e : p ≡ 53). omega (arith, format.at_most_24)))

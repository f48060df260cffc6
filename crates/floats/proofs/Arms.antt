-- The element of an f64's fields, by the number in the exponent field.
use Rattle.std.proofs.Common.{◌≡◌, ℕ, ◌+◌, ◌-◌, ◌^◌, ◌<◌, ◌≤◌, ◌∙◌, arith, lit<}
use lib.Dec.{lit≤}
use Rattle.patterns.specs.Kind.{f64}
use Rattle.float_fields.specs.Parts.{parts_of}
use Rattle.float_fields.specs.declared.Parts.{Parts}
use Rattle.float_fields.proofs.Fields.{fraction_small, fraction_is}
use Rattle.scaled.proofs.Magnitudes.{scaled_only}
use Rattle.floats.specs.Form.{finite_float, float_of, infinite_or_nan}
use Rattle.floats.specs.declared.Float.{Float}
use Rattle.floats.proofs.Forms.{subnormal_form, normal_form, special_form, own_fraction}

module _ (b : ℕ) (q : Parts) (x : Float) (is : q ≡ parts_of 53 11 b) where
  pub f64_zero_field : q.exponent ≡ 0 → x ≡ finite_float q.negative q.fraction 0 → x ≡ float_of f64 b
  f64_zero_field none e =
      e ∙ subnormal_form 53 11 0 b (lit≤ tt) (lit< tt) is q.fraction 0 none (scaled_only q.fraction 0 (omega (arith, fraction_small 53 11 b is (lit< tt))) (λ (h : 0 < 0). absurd (omega arith)))

  pub f64_middle_field : 0 < q.exponent → q.exponent < 2047 → x ≡ finite_float q.negative (2 ^ 52 + q.fraction) (q.exponent - 1) → x ≡ float_of f64 b
  f64_middle_field some few e = e ∙ normal_form 53 11 0 b (lit≤ tt) (lit< tt) is 0 _ _ (omega arith) some few (omega arith) (omega arith)

  pub f64_top_field : 2047 ≤ q.exponent → x ≡ infinite_or_nan q.negative q.fraction q.fraction → x ≡ float_of f64 b
  f64_top_field all e = e ∙ special_form 53 11 0 b (lit≤ tt) (lit< tt) is q.fraction all (fraction_is 53 11 b is ∙ own_fraction b)

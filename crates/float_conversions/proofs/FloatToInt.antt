-- A float element going to an integer kind: not finite, or the range step of its whole number.
use mathlib.Core.Path.{◌≡◌, refl, sym, ap, ◌∙◌}
use mathlib.Core.Bool.{Bool}
use mathlib.Core.List.{[], ◌∷◌}
use mathlib.Core.Logic.{⊎_elim}
use Prim.Native.Nat.{ℕ, ◌*◌, ◌^◌}
use native.Mathlib.Omega.{arith}
use lib.IntN.{ℤ}
use denote.Enum.Declared.{tag_of}
use types.Run.{OneOf}
use Rattle.grid.specs.Grid.{whole}
use Rattle.grid.specs.Ternary.{ternary_of}
use Rattle.grid.specs.Round.{rule_for, signed}
use Rattle.grid.specs.declared.RoundingMode.{RoundingMode}
use Rattle.grid.proofs.Kept.{pick_signed}
use Rattle.patterns.specs.Kind.{integer}
use Rattle.codes.specs.declared.OutOfRangeMode.{OutOfRangeMode}
use Rattle.cast_spec.specs.Element.{ranged}
use Rattle.scaled.specs.declared.Scaled.{Scaled}
use Rattle.floats.specs.declared.Class.{Class}
use Rattle.floats.specs.declared.Class.TheVariants.{Finite, Infinite, NotANumber}
use Rattle.floats.specs.declared.Float.{Float}
use Rattle.floats.specs.contracts.Class.{the_type}
use Rattle.rounding.specs.Rounding.{units_of}
use Rattle.whole_numbers.specs.Whole.{whole_of}
use Rattle.whole_numbers.specs.declared.Whole.{Whole}
use Rattle.rounding.proofs.Units.{whole_times_unit}
use Rattle.cast_spec.specs.Fit.{fit_of}
use Rattle.narrowing.specs.Fit.{fit_class, fit_float}
use Rattle.integer_range.specs.Range.{RangeApplied}
use Rattle.answers.specs.Outcome.{Fit}
use Rattle.answers.specs.declared.ConversionError.TheVariants.{NotFinite}
use Rattle.std.specs.Prelude.{Err}

module _ (s : Bool) (n : ℕ) (mode : RoundingMode) (range : OutOfRangeMode) (x : Float) where
  -- a class that is not `Finite`, as a program tells it: by the number of its variant
  pub not_finite : OneOf (1 ∷ 2 ∷ []) (tag_of the_type x.class) → Err NotFinite ≡ fit_float (integer s n) mode range x
  not_finite = go x.class
    where
      go : (c : Class) → OneOf (1 ∷ 2 ∷ []) (tag_of the_type c) → Err NotFinite ≡ fit_class (integer s n) mode range x c
      go (Finite m) t = absurd (⊎_elim (λ (e : ◌≡◌ {A = ℕ} 0 1). omega arith) (λ (e : ◌≡◌ {A = ℕ} 0 2). omega arith) t)
      go Infinite t = refl
      go (NotANumber t) u = refl

  pub rounded_fit : (m : Scaled) → x.class ≡ Finite m → (w : Whole) → w ≡ whole_of x.negative mode (m.significand * 2 ^ m.exponent) → (r : Fit) → RangeApplied x.negative w.magnitude w.exceeds w.ternary (integer s n) range r → r ≡ fit_float (integer s n) mode range x
  rounded_fit m c w ws r applied =
      let neg = x.negative in
      let u = m.significand * 2 ^ m.exponent in
      let N = units_of 1074 (rule_for neg mode) u in
      let y = whole_times_unit (rule_for neg mode) 1074 u in
      applied.fit N (signed neg u) (ap (λ (z : Whole). z.magnitude) ws) (ap (λ (z : Whole). z.exceeds) ws) (ap (λ (z : Whole). z.ternary) ws ∙ ap (λ (z : ℕ). ternary_of (signed neg u) (signed neg z)) y)
      ∙ ap (λ (z : ℤ). fit_of (ranged (integer s n) range 0 neg (signed neg u) z)) (sym (pick_signed (whole 1074) tt mode neg u ∙ ap (signed neg) y))
      ∙ ap (fit_class (integer s n) mode range x) (sym c)

-- The steps of an element by its route: what they leave of its form is what the definition has of its pattern.
use mathlib.Core.Path.{◌≡◌, ap, ◌∙◌}
use mathlib.Core.Bool.{Bool}
use Prim.Native.Nat.{ℕ, ◌^◌, ◌≤◌, ◌<◌}
use lib.Dec.{lit<, lit≤}
use Rattle.grid.specs.declared.RoundingMode.{RoundingMode}
use Rattle.patterns.specs.Kind.{Kind, WellFormed, binary, bits, f64, integer}
use Rattle.kinds.specs.Row.{float_of, kind_in, FloatRow, FormatRow}
use Rattle.kinds.specs.declared.FloatFormat.{FloatFormat}
use Rattle.kinds.specs.declared.Format.{Format}
use Rattle.kinds.specs.declared.Format.TheVariants.{Integer, Float}
use Rattle.codes.specs.declared.OutOfRangeMode.{OutOfRangeMode}
use Rattle.counts.specs.declared.Fared.TheVariants.{Exact}
use Rattle.kinds.proofs.FloatRows.{by_row}
use Rattle.floats.specs.Form as form
use Rattle.floats.specs.declared.Float as F
use Rattle.floats.proofs.Values.{Formed, f16_formed, f32_formed}
use Rattle.integers.specs.Magnitude.{IntegerPattern, magnitude_of}
use Rattle.integers.specs.declared.Integer as I
use Rattle.cast_spec.specs.Fit.{fit_of, unmapped}
use Rattle.narrowing.specs.Fit.{fit_float}
use Rattle.integer_conversions.specs.Fit.{fit_integer}
use Rattle.element.specs.Element.{FloatPattern}
use Rattle.steps.specs.Steps.{found_fit, stepped}
use Rattle.steps.proofs.FloatForms.{form_to_integer, f64_to_float, narrower_to_f64, narrower_to_narrower}
use Rattle.steps.proofs.Integers.{integer_fit}
use Rattle.steps.proofs.SameKind.{same_kind}
use Rattle.answers.specs.Outcome.{fit_as}
use Rattle.std.specs.Prelude.{Option}

-- ---- of an integer, to any kind; and of a float, to an integer kind
pub integer_steps : (b : ℕ) (s : Bool) (n : ℕ) → IntegerPattern b n → (x : I.Integer) → x ≡ magnitude_of (integer s n) b → (f : Option ℕ) (to : Kind) (mode : RoundingMode) (range : OutOfRangeMode) → found_fit f (fit_integer to mode range x) ≡ stepped f (integer s n) to mode range b
integer_steps b s n h x e f to mode range = ap (found_fit f) (integer_fit b s n h x e to mode range)

pub float_to_integer_steps : (p w s b : ℕ) → Formed (binary p w s) b → (x : F.Float) → x ≡ form.float_of (binary p w s) b → (f : Option ℕ) (t : Bool) (n : ℕ) (mode : RoundingMode) (range : OutOfRangeMode) → found_fit f (fit_float (integer t n) mode range x) ≡ stepped f (binary p w s) (integer t n) mode range b
float_to_integer_steps p w s b formed x e f t n mode range =
    ap (λ (z : F.Float). found_fit f (fit_float (integer t n) mode range z)) e
    ∙ ap (found_fit f) (form_to_integer p w s b formed mode range t n)

-- ---- of a float, to a float kind
pub f64_to_float_steps : (p w s b : ℕ) → b < 2 ^ 64 → (x : F.Float) → x ≡ form.float_of f64 b → (f : Option ℕ) (mode : RoundingMode) (range : OutOfRangeMode) → found_fit f (fit_float (binary p w s) mode range x) ≡ stepped f f64 (binary p w s) mode range b
f64_to_float_steps p w s b fits x e f mode range = ap (λ (z : F.Float). found_fit f (fit_float (binary p w s) mode range z)) e ∙ ap (found_fit f) (f64_to_float p w s b fits mode range)

module _ (b : ℕ) (mode : RoundingMode) (range : OutOfRangeMode) where
  -- from a format that is narrower than f64, to the row of another precision
  from_narrower : (p w s : ℕ) → 2 ≤ p → p < 53 → Formed (binary p w s) b → (to : FloatFormat) → FloatRow to → (p ≡ to.precision → ⊥) → fit_float (float_of to) mode range (form.float_of (binary p w s) b) ≡ fit_of (unmapped (binary p w s) (float_of to) mode range b)
  from_narrower p w s two less formed = by_row (λ (t : FloatFormat). (p ≡ t.precision → ⊥) → fit_float (float_of t) mode range (form.float_of (binary p w s) b) ≡ fit_of (unmapped (binary p w s) (float_of t) mode range b))
      (λ n. narrower_to_narrower p w s b two less formed mode range 11 5 1050 (lit≤ tt) (lit< tt) n)
      (λ n. narrower_to_narrower p w s b two less formed mode range 24 8 925 (lit≤ tt) (lit< tt) n)
      (λ n. narrower_to_f64 p w s b two less formed mode range)

  pub other_precision : (from : FloatFormat) → FloatPattern b from → (to : FloatFormat) → FloatRow to → (from.precision ≡ to.precision → ⊥) → fit_float (float_of to) mode range (form.float_of (float_of from) b) ≡ fit_of (unmapped (float_of from) (float_of to) mode range b)
  other_precision from h to row = by_row (λ (f : FloatFormat). b < 2 ^ bits (float_of f) → (f.precision ≡ to.precision → ⊥) → fit_float (float_of to) mode range (form.float_of (float_of f) b) ≡ fit_of (unmapped (float_of f) (float_of to) mode range b))
      (λ _ n. from_narrower 11 5 1050 (lit≤ tt) (lit< tt) (f16_formed b) to row n)
      (λ _ n. from_narrower 24 8 925 (lit≤ tt) (lit< tt) (f32_formed b) to row n)
      (λ fits _. f64_to_float _ _ _ b fits mode range) from h.row h.fits

-- ---- of any element, to its own kind
row_well_formed : (f : Format) → FormatRow f → WellFormed (kind_in f)
row_well_formed (Integer f) row = row.positive
row_well_formed (Float f) row = by_row (λ (z : FloatFormat). WellFormed (float_of z)) (lit≤ tt, lit< tt) (lit≤ tt, lit< tt) (lit≤ tt, lit< tt) f row

pub unchanged : (f : Format) → FormatRow f → (b : ℕ) → b < 2 ^ bits (kind_in f) → (mode : RoundingMode) (range : OutOfRangeMode) → fit_as b Exact ≡ fit_of (unmapped (kind_in f) (kind_in f) mode range b)
unchanged f row b fits mode range = ap fit_of (same_kind (kind_in f) (row_well_formed f row) b fits mode range)

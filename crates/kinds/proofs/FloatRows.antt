-- The float rows: what holds of each holds of a row, and by their precision: 53 is f64's alone, 11 is f16's, and any other is f32's.
use mathlib.Core.Path.{◌≡◌, refl, sym, subst}
use mathlib.Core.Logic.{⊎_elim}
use native.Mathlib.Omega.{arith}
use Rattle.kinds.specs.Row.{float_format, FloatRow}
use Rattle.kinds.specs.declared.FloatFormat.{FloatFormat}

pub by_row {ℓ} : (P : FloatFormat → Type ℓ) → P (float_format 11 5 1050) → P (float_format 24 8 925) → P (float_format 53 11 0) → (f : FloatFormat) → FloatRow f → P f
by_row P half single double f row = ⊎_elim (λ e. subst P (sym e) single) (λ r. ⊎_elim (λ e. subst P (sym e) double) (λ e. subst P (sym e) half) r) row

module _ (f : FloatFormat) (row : FloatRow f) where
  pub half : f.precision ≡ 11 → f ≡ float_format 11 5 1050
  half = by_row (λ (g : FloatFormat). g.precision ≡ 11 → g ≡ float_format 11 5 1050) (λ _. refl) (λ (e : 24 ≡ 11). absurd (omega arith)) (λ (e : 53 ≡ 11). absurd (omega arith)) f row

  pub double : f.precision ≡ 53 → f ≡ float_format 53 11 0
  double = by_row (λ (g : FloatFormat). g.precision ≡ 53 → g ≡ float_format 53 11 0) (λ (e : 11 ≡ 53). absurd (omega arith)) (λ (e : 24 ≡ 53). absurd (omega arith)) (λ _. refl) f row

  pub single : (f.precision ≡ 53 → ⊥) → (f.precision ≡ 11 → ⊥) → f ≡ float_format 24 8 925
  single = by_row (λ (g : FloatFormat). (g.precision ≡ 53 → ⊥) → (g.precision ≡ 11 → ⊥) → g ≡ float_format 24 8 925) (λ _ n. absurd (n refl)) (λ _ _. refl) (λ n _. absurd (n refl)) f row

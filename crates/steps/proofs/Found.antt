-- The fit of an element for which the map found a target, or none.
use mathlib.Core.Path.{◌≡◌, refl, sym, ap}
use Prim.Native.Nat.{ℕ}
use Rattle.counts.specs.declared.Fared.TheVariants.{Mapped}
use Rattle.cast_spec.specs.Element.{found_or}
use Rattle.cast_spec.specs.Fit.{fit_of}
use Rattle.steps.specs.Steps.{found_fit}
use Rattle.answers.specs.Outcome.{Fit, Outcome, fit_as}
use Rattle.std.specs.Prelude.{None, Option, Some}

module _ (f : Option ℕ) (x : Fit) where
  pub found_fit_lem : (t : ℕ) → f ≡ Some t → fit_as t Mapped ≡ found_fit f x
  found_fit_lem t e = ap (λ (l : Option ℕ). found_fit l x) (sym e)

  pub missing_fit : f ≡ None → x ≡ found_fit f x
  missing_fit e = ap (λ (l : Option ℕ). found_fit l x) (sym e)

pub found_outcome : (f : Option ℕ) (o : Outcome) → found_fit f (fit_of o) ≡ fit_of (found_or f o)
found_outcome (Some t) o = refl
found_outcome None o = refl

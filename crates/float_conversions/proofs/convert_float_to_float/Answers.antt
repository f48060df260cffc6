-- A number by its own law, and an infinity or a NaN as the f64 or narrowed to the row.
use Rattle.std.proofs.Common.{◌≡◌, ℕ, refl, sym, ap, ◌∙◌}
use Rattle.kinds.specs.Row.{float_of}
use Rattle.kinds.specs.declared.FloatFormat.{FloatFormat}
use Rattle.counts.specs.declared.Fared.TheVariants.{Exact}
use Rattle.scaled.specs.declared.Scaled.{Scaled}
use Rattle.floats.specs.Form.{CanonicalClass}
use Rattle.floats.specs.declared.Class.{Class}
use Rattle.floats.specs.declared.Class.TheVariants.{Finite, Infinite, NotANumber}
use Rattle.narrowing.specs.Fit.{Special, fit_float}
use Rattle.kinds.proofs.FloatRows.{double}
use Rattle.float_conversions.proofs.ToF64.{special_to_f64}
use Rattle.float_conversions.proofs.convert_float_to_float.Goals as goal
use Rattle.answers.specs.Outcome.{fit_as}

-- a class that is not `Finite`
not_finite : (k : Class) → ((x : Scaled) → k ≡ Finite x → ⊥) → CanonicalClass k → Special k
not_finite (Finite x) other h = absurd (other x refl)
not_finite Infinite other h = tt
not_finite (NotANumber t) other h = h.1

pub returns-in-53 : goal.returns-in-53
returns-in-53 c =
    let a = c.args in
    c.exact.ensures
    ∙ ap (λ (b : ℕ). fit_as b Exact) c.write_f64.ensures
    ∙ special_to_f64 a.x (not_finite a.x.class c.in_default.not-Finite c.requires.0) a.mode a.range
    ∙ ap (λ (f : FloatFormat). fit_float (float_of f) a.mode a.range a.x) (sym (double a.to c.requires.1 c.in-53.is))

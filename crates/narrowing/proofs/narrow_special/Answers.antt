-- An infinity, and a NaN by the top of its fraction.
use Rattle.std.proofs.Common.{ℕ, ◌+◌, ◌^◌, ◌<◌, sym, ap, ap₂, subst, ◌∙◌}
use Rattle.counts.specs.declared.Fared.TheVariants.{Exact}
use Rattle.narrowing.specs.Fit.{Special}
use Rattle.narrowing.proofs.Specials.{nan_fit, nan_fits, with_sign_add}
use Rattle.narrowing.proofs.narrow_special.Goals as goal
use Rattle.answers.specs.Outcome.{fit_as}

pub overflow_add-result : goal.overflow_add-result
overflow_add-result c =
    let a = c.args in
    record { fits = subst (λ (z : ℕ). z < 2 ^ 64) (ap₂ ◌+◌ (sym c.infinity-infinity.ensures) (sym c.quiet_fraction.ensures)) (nan_fits a.p a.w c.requires.1 a.x.negative _) }

-- a NaN's fraction is one of f64
pub returns-in-NotANumber : goal.returns-in-NotANumber
returns-in-NotANumber c s mode range =
    let a = c.args in
    let k = c.in-NotANumber in
    ap (λ (z : ℕ). fit_as z Exact) (ap₂ ◌+◌ c.infinity-infinity.ensures c.quiet_fraction.ensures ∙ with_sign_add (a.w + a.p) a.x.negative _ _)
    ∙ nan_fit a.p a.w s mode range a.x k.fraction k.is (subst Special k.is c.requires.0) c.requires.1.fewer

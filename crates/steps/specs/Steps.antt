-- Internal: what the steps of an element leave.
use Rattle.std.specs.Prelude.{ℕ}
use Rattle.grid.specs.declared.RoundingMode.{RoundingMode}
use Rattle.patterns.specs.Kind.{Kind}
use Rattle.codes.specs.declared.OutOfRangeMode.{OutOfRangeMode}
use Rattle.counts.specs.declared.Fared.TheVariants.{Mapped}
use Rattle.cast_spec.specs.Fit.{fit_of, unmapped}
use Rattle.answers.specs.Outcome.{Fit, fit_as}
use Rattle.std.specs.Prelude.{None, Option, Some}

-- a fit, unless the map found a target
abbrev pub found_fit : Option ℕ → Fit → Fit
found_fit (Some t) x = fit_as t Mapped
found_fit None x = x

-- the fit of an element for which the map found f
abbrev pub stepped : Option ℕ → Kind → Kind → RoundingMode → OutOfRangeMode → ℕ → Fit
stepped f from to rule range b = found_fit f (fit_of (unmapped from to rule range b))

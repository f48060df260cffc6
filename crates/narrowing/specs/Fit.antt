-- Internal: what a float that no map entry matches comes to in a kind, but for the fields of a refusal.
use Rattle.std.specs.Prelude.{◌*◌, ◌^◌, ◌<◌}
use Rattle.grid.specs.Round.{signed}
use Rattle.grid.specs.declared.RoundingMode.{RoundingMode}
use Rattle.patterns.specs.Kind.{Kind, integer, binary, f64}
use Rattle.patterns.specs.Pattern.{infinity, nan_pattern}
use Rattle.counts.specs.declared.Fared.TheVariants.{Exact}
use Rattle.codes.specs.declared.OutOfRangeMode.{OutOfRangeMode}
use Rattle.cast_spec.specs.Fit.{fit_number}
use Rattle.floats.specs.Form.{f64_of}
use Rattle.floats.specs.declared.Class.{Class}
use Rattle.floats.specs.declared.Class.TheVariants.{Finite, Infinite, NotANumber}
use Rattle.floats.specs.declared.Float.{Float}
use Rattle.answers.specs.Outcome.{Fit, fit_as}
use Rattle.answers.specs.declared.ConversionError.TheVariants.{NotFinite}
use Rattle.std.specs.Prelude.{Err}

-- an infinity, or a NaN by its fraction in f64
abbrev pub Special : Class → Type 0
Special (Finite x) = ⊥
Special Infinite = Unit {0}
Special (NotANumber t) = t < 2 ^ 52

abbrev pub fit_class : Kind → RoundingMode → OutOfRangeMode → Float → Class → Fit
fit_class k rule range f (Finite x) = fit_number k rule range f.negative (signed f.negative (x.significand * 2 ^ x.exponent))
fit_class (integer s n) rule range f Infinite = Err NotFinite
fit_class (integer s n) rule range f (NotANumber t) = Err NotFinite
fit_class (binary p w s) rule range f Infinite = fit_as (infinity p w f.negative) Exact
fit_class (binary p w s) rule range f (NotANumber t) = fit_as (nan_pattern f64 p w (f64_of f)) Exact

abbrev pub fit_float : Kind → RoundingMode → OutOfRangeMode → Float → Fit
fit_float k rule range f = fit_class k rule range f f.class

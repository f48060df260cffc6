-- Internal: outcomes without the fields of a refusal, and with them again.
use Rattle.std.specs.Prelude.{Bool, [], ℕ, ℤ, Ok, Err}
use Rattle.grid.specs.Round.{pick}
use Rattle.grid.specs.declared.RoundingMode.{RoundingMode}
use Rattle.patterns.specs.Kind.{Kind, integer, binary, grid_of, low_int, high_int}
use Rattle.patterns.specs.Value.{value_of}
use Rattle.codes.specs.declared.OutOfRangeMode.{OutOfRangeMode}
use Rattle.answers.specs.declared.ElementRefusal.TheVariants as E
use Rattle.answers.specs.declared.ConversionError.TheVariants.{NotFinite, OutOfRange}
use Rattle.answers.specs.Outcome.{Outcome, Fit}
use Rattle.cast_spec.specs.Element.{converted, overrun, ranged}

-- an outcome without its value and ends
abbrev pub fit_of : Outcome → Fit
fit_of (Ok s) = Ok s
fit_of (Err (E.NanOrInf v)) = Err NotFinite
fit_of (Err (E.OutOfRange v lo hi)) = Err OutOfRange
fit_of (Err (E.FloatOutOfRange v lo hi)) = Err OutOfRange

-- a number x of the sign neg; no fit has the value that stands as 0 here
abbrev pub fit_number : Kind → RoundingMode → OutOfRangeMode → Bool → ℤ → Fit
fit_number k rule range neg x = fit_of (ranged k range 0 neg x (pick (grid_of k) rule x))

-- the outcome of an element that no entry matches
abbrev pub unmapped : Kind → Kind → RoundingMode → OutOfRangeMode → ℕ → Outcome
unmapped from to rule range b = converted (record { from = from; to = to; rule = rule; range = range; entries = [] }) b to (value_of from b)

-- the refusal of an element with the f64 value v
abbrev pub past_range : Kind → ℕ → Outcome
past_range (integer s n) v = Err (E.OutOfRange v (low_int s n) (high_int s n))
past_range (binary p w s) v = overrun (binary p w s) p w v

-- a fit with the fields of its refusal
abbrev pub filled : Kind → ℕ → Fit → Outcome
filled k v (Ok s) = Ok s
filled k v (Err NotFinite) = Err (E.NanOrInf v)
filled k v (Err OutOfRange) = past_range k v

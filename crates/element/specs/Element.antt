-- Internal: a pattern as an element, and the f64 of one.
use Rattle.std.specs.Prelude.{ℕ, ◌*◌, ◌^◌, ◌<◌}
use Rattle.grid.specs.Round.{pick, signed}
use Rattle.grid.specs.declared.RoundingMode.TheVariants.{NearestEven}
use Rattle.patterns.specs.Kind.{f64, bits, grid_of}
use Rattle.patterns.specs.Pattern.{pattern_of}
use Rattle.kinds.specs.Row.{integer_of, float_of, FloatRow}
use Rattle.kinds.specs.declared.FloatFormat.{FloatFormat}
use Rattle.kinds.specs.declared.Format.{Format}
use Rattle.kinds.specs.declared.Format.TheVariants.{Integer, Float}
use Rattle.integers.specs.Magnitude.{IntegerPattern, magnitude_of}
use Rattle.floats.specs.Form as form
use Rattle.element.specs.declared.Element.{Element}
use Rattle.element.specs.declared.Element.TheVariants as E

-- an element of a float kind
pub record FloatPattern (b : ℕ) (f : FloatFormat) : Type 0 where
  pub row : FloatRow f
  pub fits : b < 2 ^ bits (float_of f)

-- an element of any kind
abbrev pub FormatPattern : ℕ → Format → Type 0
FormatPattern b (Integer f) = IntegerPattern b f.bits
FormatPattern b (Float f) = FloatPattern b f

abbrev pub element_of : Format → ℕ → Element
element_of (Integer f) b = E.Integer (magnitude_of (integer_of f) b)
element_of (Float f) b = E.Float (form.float_of (float_of f) b)

-- the f64 of an element, an integer's by nearest-even
unfoldable pub element_f64 : Element → ℕ
element_f64 (E.Integer x) = pattern_of f64 x.negative (pick (grid_of f64) NearestEven (signed x.negative (x.magnitude * 2 ^ 1074)))
element_f64 (E.Float x) = form.f64_of x

abbrev pub CanonicalElement : Element → Type 0
CanonicalElement (E.Integer x) = Unit {0}
CanonicalElement (E.Float x) = form.CanonicalClass x.class

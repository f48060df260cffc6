-- Internal: the one rule of the table: a kind's row follows from what the kind is.
use Rattle.std.specs.Prelude.{◌≡◌, Bool, true, false, ◌⊎◌, ℕ, ◌-◌, ◌≤◌, ◌<◌}
use Rattle.patterns.specs.Kind.{Kind, integer, binary, width, low_int, high_int}
use Rattle.patterns.specs.Pattern.{as_f64, infinity}
use Rattle.kinds.specs.declared.IntegerFormat.{IntegerFormat}
use Rattle.kinds.specs.declared.FloatFormat.{FloatFormat}
use Rattle.kinds.specs.declared.Format.{Format}
use Rattle.kinds.specs.declared.Format.TheVariants.{Integer, Float}
use Rattle.kinds.specs.declared.KindRow.{KindRow}

abbrev pub integer_format : Bool → ℕ → IntegerFormat
integer_format s n = record { bits = n; signed = s; lowest = low_int s n; highest = high_int s n }

-- the largest finite float's pattern is the one before the infinity's
abbrev pub float_format : ℕ → ℕ → ℕ → FloatFormat
float_format p w s = record { precision = p; exponent_bits = w; spacing = s; lowest = as_f64 (binary p w s) (infinity p w true - 1); highest = as_f64 (binary p w s) (infinity p w false - 1) }

unfoldable pub format_of : Kind → Format
format_of (integer s n) = Integer (integer_format s n)
format_of (binary p w s) = Float (float_format p w s)

abbrev pub row_of : Kind → KindRow
row_of k = record { bytes = width k; format = format_of k }

-- ---- the kind that a format is of

abbrev pub integer_of : IntegerFormat → Kind
integer_of f = integer f.signed f.bits

abbrev pub float_of : FloatFormat → Kind
float_of f = binary f.precision f.exponent_bits f.spacing

abbrev pub kind_in : Format → Kind
kind_in (Integer f) = integer_of f
kind_in (Float f) = float_of f

-- an integer format of at most 64 bits, with its ends
pub record IntegerRow (f : IntegerFormat) : Type 0 where
  pub positive : 0 < f.bits
  pub at_most_64 : f.bits ≤ 64
  pub low : f.lowest ≡ low_int f.signed f.bits
  pub high : f.highest ≡ high_int f.signed f.bits

-- the format of f32, of f64 or of f16
abbrev pub FloatRow : FloatFormat → Type 0
FloatRow f = (f ≡ float_format 24 8 925) ⊎ ((f ≡ float_format 53 11 0) ⊎ (f ≡ float_format 11 5 1050))

abbrev pub FormatRow : Format → Type 0
FormatRow (Integer f) = IntegerRow f
FormatRow (Float f) = FloatRow f

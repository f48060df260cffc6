-- The fields of a refusal: an element's f64 is its pattern's, and the ends are the row's.
use mathlib.Core.Path.{◌≡◌, refl, ap₂}
use Prim.Native.Nat.{ℕ}
use Rattle.patterns.specs.Pattern.{as_f64}
use Rattle.kinds.specs.Row.{float_of, integer_of, kind_in, FloatRow, IntegerRow}
use Rattle.kinds.specs.declared.FloatFormat.{FloatFormat}
use Rattle.kinds.specs.declared.IntegerFormat.{IntegerFormat}
use Rattle.kinds.specs.declared.Format.{Format}
use Rattle.kinds.specs.declared.Format.TheVariants.{Integer, Float}
use Rattle.cast_spec.specs.Fit.{past_range}
use Rattle.element.specs.Element.{CanonicalElement, FormatPattern, element_f64, element_of}
use Rattle.kinds.proofs.FloatRows.{by_row}
use Rattle.element.proofs.FloatRows.{row_formed}
use Rattle.element.proofs.Integers.{as_f64_is}
use Rattle.answers.specs.declared.ElementRefusal.TheVariants.{FloatOutOfRange, OutOfRange}
use Rattle.std.specs.Prelude.{Err, ℤ}

pub canonical_of : (f : Format) (b : ℕ) → FormatPattern b f → CanonicalElement (element_of f b)
canonical_of (Integer f) b h = tt
canonical_of (Float f) b h = (row_formed f h.row b h.fits).canonical

pub value_of : (f : Format) (b : ℕ) → FormatPattern b f → element_f64 (element_of f b) ≡ as_f64 (kind_in f) b
unfolding element_f64
value_of (Integer f) b h = as_f64_is b f.signed f.bits h
value_of (Float f) b h = (row_formed f h.row b h.fits).written

pub integer_ends : (f : IntegerFormat) → IntegerRow f → (v : ℕ) → Err (OutOfRange v f.lowest f.highest) ≡ past_range (integer_of f) v
integer_ends f row v = ap₂ (λ (lo : ℤ) (hi : ℕ). Err (OutOfRange v lo hi)) row.low row.high

pub float_ends : (f : FloatFormat) → FloatRow f → (v : ℕ) → Err (FloatOutOfRange v f.lowest f.highest) ≡ past_range (float_of f) v
float_ends f row v = by_row (λ (g : FloatFormat). Err (FloatOutOfRange v g.lowest g.highest) ≡ past_range (float_of g) v) refl refl refl f row

-- A pattern of a float row is the form that it is read as, and the rows but f64's have fields in f64.
use mathlib.Core.Path.{◌≡◌, refl}
use Prim.Native.Nat.{ℕ, ◌^◌, ◌<◌}
use Rattle.patterns.specs.Kind.{bits}
use Rattle.kinds.specs.Row.{float_of, FloatRow}
use Rattle.kinds.specs.declared.FloatFormat.{FloatFormat}
use Rattle.kinds.proofs.FloatRows.{by_row}
use Rattle.float_fields.specs.Widened.{Widens}
use Rattle.float_fields.specs.Formats.{f16_widens, f32_widens}
use Rattle.floats.proofs.Values.{Formed, f16_formed, f32_formed, f64_formed}

pub row_formed : (f : FloatFormat) → FloatRow f → (b : ℕ) → b < 2 ^ bits (float_of f) → Formed (float_of f) b
row_formed f row b = by_row (λ (z : FloatFormat). b < 2 ^ bits (float_of z) → Formed (float_of z) b) (λ _. f16_formed b) (λ _. f32_formed b) (f64_formed b) f row

pub row_widens : (f : FloatFormat) → FloatRow f → (f.precision ≡ 53 → ⊥) → Widens f.precision f.exponent_bits f.spacing
row_widens = by_row (λ (f : FloatFormat). (f.precision ≡ 53 → ⊥) → Widens f.precision f.exponent_bits f.spacing) (λ _. f16_widens) (λ _. f32_widens) (λ n. absurd (n refl))

-- A pattern of a constant format's bits, as a value's is, is one that the steps take.
use Prim.Native.Nat.{ℕ, ◌^◌, ◌<◌}
use lib.Ieee as I
use lib.IntN.{ℤ}
use lib.Dec.{lit<, lit≤}
use mathlib.Core.Path.{◌≡◌, sym, subst}
use Rattle.patterns.specs.Kind.{f32, f64}
use Rattle.floats.specs.declared.Float.{Float}
use Rattle.floats.specs.Form.{CanonicalClass, float_of}
use Rattle.floats.proofs.Values.{f32_formed, f64_formed, read_canonical}
use Rattle.kinds.proofs.Constants.{F32, F64, u8_row, i32_row, f32_row, f64_row}
use Rattle.integers.specs.Magnitude.{IntegerPattern}
use Rattle.typed_values.specs.Bits.{f64_bits, f32_bits, i64_bits}
use Rattle.typed_values.proofs.Fits.{f64_fits, f32_fits, i64_fits}

pub i64_pattern : (x : ℕ) → x < 2 ^ 64 → IntegerPattern x 64
i64_pattern x h = record { positive = lit< tt; at_most_64 = lit≤ tt; fits = h }

pub f64_canonical : (b : ℕ) (x : Float) → x ≡ float_of f64 b → b < 2 ^ 64 → CanonicalClass x.class
f64_canonical b x e h = read_canonical f64 b (f64_formed b h) x e

pub f32_canonical : (b : ℕ) (x : Float) → x ≡ float_of f32 b → CanonicalClass x.class
f32_canonical b x e = read_canonical f32 b (f32_formed b) x e

pub f64_below : (b : ℕ) (x : I.Float) → b ≡ f64_bits x → b < 2 ^ 64
f64_below b x e = subst (λ (n : ℕ). n < 2 ^ 64) (sym e) (f64_fits x)

pub f32_below : (b : ℕ) (x : I.Float) → b ≡ f32_bits x → b < 2 ^ 32
f32_below b x e = subst (λ (n : ℕ). n < 2 ^ 32) (sym e) (f32_fits x)

pub i64_below : (b : ℕ) (x : ℤ) → b ≡ i64_bits x → b < 2 ^ 64
i64_below b x e = subst (λ (n : ℕ). n < 2 ^ 64) (sym e) (i64_fits x)

pub ruleset formats = (f64_canonical, f32_canonical, i64_pattern, f32_below, u8_row, i32_row, f32_row)

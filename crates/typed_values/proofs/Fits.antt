-- Each type's patterns fit: they are below 2 to its bits.
use mathlib.Core.Bool.{true}
use Prim.Native.Nat.{ℕ, ◌^◌, ◌<◌}
use native.Mathlib.Nat.{mod-lt}
use lib.Dec.{lit<}
use lib.Ieee.{Float, binary32, binary64}
use lib.IntN.{ℤ}
use Rattle.patterns.proofs.AnyKind.{unit_pos}
use Rattle.patterns.proofs.Integers.{low_bits_lt}
use Rattle.typed_values.specs.Bits.{f64_bits, f32_bits, i64_bits, i32_bits, u8_bits}
use Rattle.typed_values.proofs.Patterns.{bits_below}

pub f64_fits : (x : Float) → f64_bits x < 2 ^ 64
f64_fits = bits_below binary64

pub f32_fits : (x : Float) → f32_bits x < 2 ^ 32
f32_fits = bits_below binary32

pub i64_fits : (z : ℤ) → i64_bits z < 2 ^ 64
i64_fits z = low_bits_lt true 64 (2 ^ 1074) (lit< tt) unit_pos z

pub i32_fits : (z : ℤ) → i32_bits z < 2 ^ 32
i32_fits z = low_bits_lt true 32 (2 ^ 1074) (lit< tt) unit_pos z

pub u8_fits : (b : ℕ) → u8_bits b < 2 ^ 8
u8_fits b = mod-lt b (lit< tt)

-- To be believed: the value that a pattern's lowest bits are.
use Rattle.std.specs.Prelude.{cond, ℕ, ◌-◌, ◌%◌, ◌^◌, ltb, Float, ℤ, pos, negsuc}
use Rattle.std.specs.Float.{binary32, binary64}
use Rattle.std.specs.Float.Ieee.{of_bits}

abbrev pub u8_of : ℕ → ℕ
u8_of b = b % 2 ^ 8

abbrev pub i32_of : ℕ → ℤ
i32_of b = let low = b % 2 ^ 32 in cond (ltb low (2 ^ 31)) (pos low) (negsuc (2 ^ 32 - 1 - low))

abbrev pub f32_of : ℕ → Float
f32_of b = of_bits binary32 (b % 2 ^ 32)

abbrev pub f64_of : ℕ → Float
f64_of b = of_bits binary64 (b % 2 ^ 64)

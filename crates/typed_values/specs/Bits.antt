-- To be believed: a typed value's pattern.
use Rattle.std.specs.Prelude.{cond, ℕ, ◌%◌, ◌^◌, Float, ℤ}
use Rattle.std.specs.Float.{Format, binary32, binary64}
use Rattle.std.specs.Float.Ieee.{fits, to_bits}
use Rattle.patterns.specs.Pattern.{low_bits}

-- A float of the language is one that fits its format. The language has one NaN and gives it no bits; `to_bits` writes the quiet NaN for it: sign 0,
-- of the fraction only the highest bit. A value that does not fit, which no program has, gets 0.
abbrev pub float_bits : Format → Float → ℕ
float_bits f x = cond (fits f x) (to_bits f x) 0

abbrev pub f64_bits : Float → ℕ
f64_bits = float_bits binary64

abbrev pub f32_bits : Float → ℕ
f32_bits = float_bits binary32

abbrev pub i64_bits : ℤ → ℕ
i64_bits = low_bits 64

abbrev pub i32_bits : ℤ → ℕ
i32_bits = low_bits 32

abbrev pub u8_bits : ℕ → ℕ
u8_bits b = b % 2 ^ 8

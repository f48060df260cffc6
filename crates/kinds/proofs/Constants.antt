-- Each constant format is a row of the table of kinds, by computing.
use mathlib.Core.Bool.{true, false}
use mathlib.Core.Logic.{inl, inr}
use mathlib.Core.Path.{refl}
use lib.Dec.{lit<, lit≤}
use lib.Ieee.{size}
use lib.IntN.{pos, neg_ℤ}
use Rattle.grid.specs.Round.{pick}
use Rattle.patterns.specs.Float.{bits_mag}
use Rattle.patterns.specs.Value.{value_of}
use Rattle.patterns.specs.Pattern.{pattern_of}
use Rattle.kinds.specs.Row.{IntegerRow, FloatRow}
use Rattle.kinds.specs.declared.FloatFormat.{FloatFormat}
use Rattle.kinds.specs.declared.IntegerFormat.{IntegerFormat}

abbrev pub U8 : IntegerFormat
U8 = record { bits = 8; signed = false; lowest = pos 0; highest = 255 }

pub u8_row : IntegerRow U8
u8_row = record { positive = lit< tt; at_most_64 = lit≤ tt; low = refl; high = refl }

abbrev pub I32 : IntegerFormat
I32 = record { bits = 32; signed = true; lowest = neg_ℤ (pos 2147483648); highest = 2147483647 }

pub i32_row : IntegerRow I32
i32_row = record { positive = lit< tt; at_most_64 = lit≤ tt; low = refl; high = refl }

abbrev pub F32 : FloatFormat
F32 = record { precision = 24; exponent_bits = 8; spacing = 925; lowest = 0xc7ef_ffff_e000_0000; highest = 0x47ef_ffff_e000_0000 }

pub f32_row : FloatRow F32
unfolding value_of pattern_of pick bits_mag size
f32_row = inl refl

abbrev pub F64 : FloatFormat
F64 = record { precision = 53; exponent_bits = 11; spacing = 0; lowest = 0xffef_ffff_ffff_ffff; highest = 0x7fef_ffff_ffff_ffff }

pub f64_row : FloatRow F64
unfolding value_of pattern_of pick bits_mag size
f64_row = inr (inl refl)

abbrev pub F16 : FloatFormat
F16 = record { precision = 11; exponent_bits = 5; spacing = 1050; lowest = 0xc0ef_fc00_0000_0000; highest = 0x40ef_fc00_0000_0000 }

pub f16_row : FloatRow F16
unfolding value_of pattern_of pick bits_mag size
f16_row = inr (inr refl)

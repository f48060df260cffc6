-- Laws: f16, f32 and f64 are formats whose numbers are numbers of f64, with a whole number for the largest, and the first two read as an f32's.
use mathlib.Core.Path.{refl}
use mathlib.Core.Logic.{inl, inr}
use Rattle.std.specs.Prelude.{◌-◌, ◌*◌, ◌^◌, ◌≤◌}
use Rattle.std.proofs.Common.{le_refl, lit<}
use lib.Dec.{lit≤}
use Rattle.grid.specs.Grid.{OnMag, whole}
use Rattle.patterns.specs.Float.{bits_mag, inf_bits}
use Rattle.float_fields.specs.Format.{Format}
use Rattle.float_fields.specs.Widened.{Widens}

pub f16_within_f64 : bits_mag 11 1050 (inf_bits 11 5 - 1) ≤ bits_mag 53 0 (inf_bits 53 11 - 1)
unfolding bits_mag
f16_within_f64 = lit≤ tt

pub f32_within_f64 : bits_mag 24 925 (inf_bits 24 8 - 1) ≤ bits_mag 53 0 (inf_bits 53 11 - 1)
unfolding bits_mag
f32_within_f64 = lit≤ tt

pub f16_top : OnMag (whole 1074) (bits_mag 11 1050 (inf_bits 11 5 - 1))
unfolding bits_mag
f16_top = record { m = (2 ^ 11 - 1) * 2 ^ 5; e = 1074; written = (refl, refl) }

pub f32_top : OnMag (whole 1074) (bits_mag 24 925 (inf_bits 24 8 - 1))
unfolding bits_mag
f32_top = record { m = (2 ^ 24 - 1) * 2 ^ 104; e = 1074; written = (refl, refl) }

pub f64_top : OnMag (whole 1074) (bits_mag 53 0 (inf_bits 53 11 - 1))
unfolding bits_mag
f64_top = record { m = (2 ^ 53 - 1) * 2 ^ 971; e = 1074; written = (refl, refl) }

pub f16_format : Format 11 5 1050
f16_format = record { two = lit≤ tt; at_most_53 = lit≤ tt; positive = lit< tt; at_most_11 = lit≤ tt; fine = lit≤ tt; narrower_or_f64 = inl (lit< tt, lit< tt); within_f64 = f16_within_f64; whole_top = f16_top }

pub f32_format : Format 24 8 925
f32_format = record { two = lit≤ tt; at_most_53 = lit≤ tt; positive = lit< tt; at_most_11 = lit≤ tt; fine = lit≤ tt; narrower_or_f64 = inl (lit< tt, lit< tt); within_f64 = f32_within_f64; whole_top = f32_top }

pub f64_format : Format 53 11 0
f64_format = record { two = lit≤ tt; at_most_53 = lit≤ tt; positive = lit< tt; at_most_11 = lit≤ tt; fine = lit≤ tt; narrower_or_f64 = inr (refl, refl, refl); within_f64 = le_refl _; whole_top = f64_top }

pub f16_widens : Widens 11 5 1050
f16_widens = record { two = lit≤ tt; at_most_24 = lit≤ tt; positive = lit< tt; start = lit≤ tt; within = lit≤ tt }

pub f32_widens : Widens 24 8 925
f32_widens = record { two = lit≤ tt; at_most_24 = lit≤ tt; positive = lit< tt; start = lit≤ tt; within = lit≤ tt }

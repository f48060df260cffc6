-- To be believed: the bit pattern of a number, of an infinity and of a NaN.
use Rattle.std.specs.Prelude.{Bool, cond, ℕ, ◌+◌, ◌-◌, ◌*◌, ◌/◌, ◌%◌, ◌^◌, eqb, ℤ, pos, negsuc, nat_abs}
use Rattle.std.specs.Int.Signed.{shr_z}
use Rattle.grid.specs.Grid.{float}
use Rattle.grid.specs.Round.{unit_exp, pick}
use Rattle.grid.specs.declared.RoundingMode.TheVariants.{NearestEven}
use Rattle.patterns.specs.Float.{inf_bits}
use Rattle.patterns.specs.Kind.{Kind, integer, binary, f64, grid_of}
use Rattle.patterns.specs.Value.{Value, nan, inf, num, negative, value_of}

-- the lowest n bits of a whole number, two's complement
abbrev pub low_bits : ℕ → ℤ → ℕ
low_bits n (pos m) = m % 2 ^ n
low_bits n (negsuc m) = 2 ^ n - 1 - m % 2 ^ n

-- the sign's bit, the highest of n, over the bits x
abbrev pub with_sign : ℕ → Bool → ℕ → ℕ
with_sign n neg x = cond neg (2 ^ (n - 1) + x) x

-- the bits below the sign of a grid number's magnitude m: its exponent field and its significant bits
abbrev pub mag_bits : ℕ → ℕ → ℕ → ℕ
mag_bits p s m = let e = unit_exp (float p s) m in (e - s) * 2 ^ (p - 1) + m / 2 ^ e

-- the pattern of the number y; a float takes the sign that is given, at zero too
unfoldable pub pattern_of : Kind → Bool → ℤ → ℕ
pattern_of (integer s n) neg y = low_bits n (shr_z y (2 ^ 1074))
pattern_of (binary p w s) neg y = with_sign (w + p) neg (mag_bits p s (nat_abs y))

abbrev pub infinity : ℕ → ℕ → Bool → ℕ
infinity p w neg = with_sign (w + p) neg (inf_bits p w)

-- a NaN's fraction of p - 1 bits moved to the top of one of p' - 1 bits, "highest fraction bit set"
abbrev pub quiet : ℕ → ℕ → ℕ → ℕ
quiet p p' b = 2 ^ (p' - 2) + b % 2 ^ (p - 1) * 2 ^ (p' - 1) / 2 ^ (p - 1) % 2 ^ (p' - 2)

-- "same kind, bits unchanged; f64 to f32, sign kept, top 23 fraction bits kept, highest fraction bit set; f32 to f64, sign kept,
-- fraction placed at the top, highest fraction bit set"; "a NaN from f64 or f32 keeps its sign and its top ten fraction bits, with the highest set; from f16
-- to f32 or f64 the fraction goes to the top, likewise". An integer kind has no NaN.
unfoldable pub nan_pattern : Kind → ℕ → ℕ → ℕ → ℕ
nan_pattern (integer s n) p' w' b = 0
nan_pattern (binary p w s) p' w' b = cond (eqb p p') b (with_sign (w' + p') (negative (binary p w s) b) (inf_bits p' w' + quiet p p' b))

-- "The value is the unrounded element as f64, an integer by nearest-even; a NaN by the rule above."
abbrev pub as_f64_from : Kind → ℕ → Value → ℕ
as_f64_from k b (num x) = pattern_of f64 (negative k b) (pick (grid_of f64) NearestEven x)
as_f64_from k b (inf neg) = infinity 53 11 neg
as_f64_from k b nan = nan_pattern k 53 11 b

abbrev pub as_f64 : Kind → ℕ → ℕ
as_f64 k b = as_f64_from k b (value_of k b)

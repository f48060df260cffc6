-- To be believed: number kinds by what they are, their widths, their grids and their finite ranges.
use Rattle.std.specs.Prelude.{Bool, true, false, ℕ, ◌+◌, ◌-◌, ◌*◌, ◌/◌, ◌^◌, ◌≤◌, ◌<◌, ℤ, pos, neg_ℤ, ◌≤ℤ◌}
use Rattle.grid.specs.Grid.{Grid, whole, float}
use Rattle.patterns.specs.Float.{bits_mag, inf_bits}

-- `integer s n`: n bits, two's complement where s is true. `binary p w s`: p significant bits, w bits of exponent field, smallest
-- spacing 2^s, where s counts from 2^-1074.
pub data Kind : Type 0 where
  integer : Bool → ℕ → Kind
  binary : ℕ → ℕ → ℕ → Kind

-- "p and s are 24 and -149 for f32, 53 and -1074 for f64"; f16 "has 11 significant bits, MAX 65504 and smallest spacing 2^-24"
abbrev pub f16 : Kind
f16 = binary 11 5 1050

abbrev pub f32 : Kind
f32 = binary 24 8 925

abbrev pub f64 : Kind
f64 = binary 53 11 0

abbrev pub is_float : Kind → Bool
is_float (integer s n) = false
is_float (binary p w s) = true

abbrev pub bits : Kind → ℕ
bits (integer s n) = n
bits (binary p w s) = w + p

-- the bytes of an element
abbrev pub width : Kind → ℕ
width k = bits k / 8

-- "The grid of an integer kind is all whole numbers. A float kind .. has for its grid every m × 2^e": no largest exponent
abbrev pub grid_of : Kind → Grid
grid_of (integer s n) = whole 1074
grid_of (binary p w s) = float p s

-- "Integer range means lowest to highest of the target, exactly": the ends themselves
abbrev pub low_int : Bool → ℕ → ℤ
low_int true n = neg_ℤ (pos (2 ^ (n - 1)))
low_int false n = pos 0

abbrev pub high_int : Bool → ℕ → ℕ
high_int true n = 2 ^ (n - 1) - 1
high_int false n = 2 ^ n - 1

-- "the target's lowest finite number .. its highest, -MAX and MAX for a float", as multiples of 2^-1074
unfoldable pub lowest : Kind → ℤ
lowest (integer true n) = neg_ℤ (pos (2 ^ (n - 1) * 2 ^ 1074))
lowest (integer false n) = pos 0
lowest (binary p w s) = neg_ℤ (pos (bits_mag p s (inf_bits p w - 1)))

unfoldable pub highest : Kind → ℤ
highest (integer s n) = pos (high_int s n * 2 ^ 1074)
highest (binary p w s) = pos (bits_mag p s (inf_bits p w - 1))

-- not "below the target's lowest finite number or above its highest"
abbrev pub InRange : Kind → ℤ → Type 0
InRange k y = (lowest k ≤ℤ y) × (y ≤ℤ highest k)

-- what the laws ask of a kind: a bit at least, or two significant bits and an exponent field
abbrev pub WellFormed : Kind → Type 0
WellFormed (integer s n) = 0 < n
WellFormed (binary p w s) = (2 ≤ p) × (0 < w)

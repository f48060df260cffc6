-- To be believed: the magnitude of a float's bits, as a sum of powers of two in its fields.
use Rattle.std.specs.Prelude.{ℕ, zero, suc, ◌+◌, ◌-◌, ◌*◌, ◌/◌, ◌%◌, ◌^◌}

-- "Sign, exponent field and fraction": field x and fraction t of a float of p significant bits and smallest spacing 2^s.
-- Field 0 has zero and the subnormal numbers; any other adds the leading bit.
unfoldable pub field_mag : ℕ → ℕ → ℕ → ℕ → ℕ
field_mag p s zero t = t * 2 ^ s
field_mag p s (suc x) t = (2 ^ (p - 1) + t) * 2 ^ (x + s)

-- the bits below the sign are the field over the p - 1 bits of the fraction
unfoldable pub bits_mag : ℕ → ℕ → ℕ → ℕ
unfolding field_mag
bits_mag p s b = field_mag p s (b / 2 ^ (p - 1)) (b % 2 ^ (p - 1))

-- the bits below the sign of an infinity: the field of ones over fraction 0. Those of a finite number are less, those of a NaN more.
abbrev pub inf_bits : ℕ → ℕ → ℕ
inf_bits p w = (2 ^ w - 1) * 2 ^ (p - 1)

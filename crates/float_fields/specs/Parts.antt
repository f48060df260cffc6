-- Internal: "Sign, exponent field and fraction": the fields of a float's bits, by quotients and remainders of powers of two.
use Rattle.std.specs.Prelude.{ℕ, ◌+◌, ◌-◌, ◌/◌, ◌%◌, ◌^◌, leb}
use Rattle.float_fields.specs.declared.Parts.{Parts}

-- the field of w bits, over the p - 1 bits of the fraction
abbrev pub field_of : ℕ → ℕ → ℕ → ℕ
field_of p w b = b / 2 ^ (p - 1) % 2 ^ w

abbrev pub fraction_of : ℕ → ℕ → ℕ
fraction_of p b = b % 2 ^ (p - 1)

-- p significant bits and w bits of exponent field; the sign is the highest bit
abbrev pub parts_of : ℕ → ℕ → ℕ → Parts
parts_of p w b = record { negative = leb (2 ^ (w + p - 1)) b; exponent = field_of p w b; fraction = fraction_of p b }

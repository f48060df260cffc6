-- To be believed: what a bit pattern of a kind stands for.
use Rattle.std.specs.Prelude.{Bool, ◌&&◌, cond, ℕ, ◌+◌, ◌-◌, ◌*◌, ◌%◌, ◌^◌, eqb, ltb, leb, ℤ}
use Rattle.grid.specs.Round.{signed}
use Rattle.patterns.specs.Float.{bits_mag, inf_bits}
use Rattle.patterns.specs.Kind.{Kind, integer, binary}

-- a NaN, an infinity with whether it is the negative one, or the multiple of 2^-1074 that stands for a finite number
pub data Value : Type 0 where
  nan : Value
  inf : Bool → Value
  num : ℤ → Value

-- the sign's bit, the highest
abbrev pub negative : Kind → ℕ → Bool
negative (integer s n) b = s && leb (2 ^ (n - 1)) b
negative (binary p w s) b = leb (2 ^ (w + p - 1)) b

-- the bits x below a float's sign
abbrev pub float_value : ℕ → ℕ → ℕ → Bool → ℕ → Value
float_value p w s neg x = cond (ltb x (inf_bits p w)) (num (signed neg (bits_mag p s x))) (cond (eqb x (inf_bits p w)) (inf neg) nan)

unfoldable pub value_of : Kind → ℕ → Value
value_of (integer s n) b = let neg = negative (integer s n) b in num (signed neg (cond neg (2 ^ n - b) b * 2 ^ 1074))
value_of (binary p w s) b = float_value p w s (negative (binary p w s) b) (b % 2 ^ (w + p - 1))

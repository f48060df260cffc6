-- To be believed: numbers as text, in ASCII.
use Rattle.std.specs.Prelude.{cond, List, [], ◌∷◌, ℕ, zero, suc, ◌+◌, ◌/◌, ◌%◌, ◌^◌, ltb, leb}

-- "lowercase hexadecimal": `0` to `9`, then `a` to `f`
abbrev pub glyph_of : ℕ → ℕ
glyph_of d = cond (ltb d 10) (48 + d) (87 + d)

-- the k lowest digits of v in base b, the highest of them first: the digit at the place j counts b^j
abbrev pub digits : ℕ → ℕ → ℕ → List ℕ
digits b zero v = []
digits b (suc j) v = glyph_of (v / b ^ j % b) ∷ digits b j v

-- how many digits the largest power of ten up to 10^n has that is at most v; 1 where none is
abbrev pub places_up_to : ℕ → ℕ → ℕ
places_up_to zero v = 1
places_up_to (suc n) v = cond (leb (10 ^ suc n) v) (suc (suc n)) (places_up_to n v)

-- the fewest decimal digits that write v, at least one: 10^v is past v
abbrev pub places : ℕ → ℕ
places v = places_up_to v v

abbrev pub decimal : ℕ → List ℕ
decimal v = digits 10 (places v) v

-- To be believed: numbers as bytes, "each element lowest byte first".
use Rattle.std.specs.Prelude.{◌≡◌, ◌⊎◌, List, [], ◌∷◌, ◌++◌, ℕ, zero, suc, ◌+◌, ◌*◌, ◌/◌, ◌%◌, ◌^◌, ◌≤◌, length, take, drop}

-- the sum of the bytes, each times 256 to its place, the first of them at the place i
abbrev pub sum_from : ℕ → List ℕ → ℕ
sum_from i [] = 0
sum_from i (x ∷ xs) = x * 256 ^ i + sum_from (suc i) xs

abbrev pub from_le : List ℕ → ℕ
from_le xs = sum_from 0 xs

-- the n lowest bytes of v
abbrev pub to_le : ℕ → ℕ → List ℕ
to_le zero v = []
to_le (suc n) v = v % 256 ∷ to_le n (v / 256)

-- the bit pattern of the element at the position i of a chunk s of elements of w bytes
abbrev pub pattern_at : ℕ → List ℕ → ℕ → ℕ
pattern_at w s i = from_le (take w (drop (i * w) s))

-- d with the w lowest bytes of v at the place a
abbrev pub put : List ℕ → ℕ → ℕ → ℕ → List ℕ
put d a w v = take a d ++ (to_le w v ++ drop (a + w) d)

-- the bytes of an element
abbrev pub Width : ℕ → Type 0
Width w = (w ≡ 1) ⊎ ((w ≡ 2) ⊎ ((w ≡ 4) ⊎ (w ≡ 8)))

-- w is the width of a kind, and w bytes at the place a lie within s
pub record Place (s : List ℕ) (a w : ℕ) : Type 0 where
  pub width : Width w
  pub within : a + w ≤ length s

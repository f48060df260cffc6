-- To be believed: the Hamming distance of two rows of bytes.
use Rattle.std.specs.Prelude.{cond, List, [], ◌∷◌, ℕ, suc, eqb, length}

-- at how many places they differ; a place that one of them alone has counts
abbrev pub distance : List ℕ → List ℕ → ℕ
distance [] ys = length ys
distance (x ∷ xs) [] = suc (length xs)
distance (x ∷ xs) (y ∷ ys) = cond (eqb x y) (distance xs ys) (suc (distance xs ys))

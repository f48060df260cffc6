-- The contract of a fetch is met by one number: for the element at the position 1 of two bytes, and of eight.
use mathlib.Core.Path.{◌≡◌}
use mathlib.Core.List.{List, [], ◌∷◌}
use Prim.Native.Nat.{ℕ, ◌*◌}
use lib.Dec.{lit<, lit≤}
use Rattle.bytes_le.specs.Fetch.{Fetched}
use Rattle.bytes_le.proofs.Fetches.{pattern_is_fetched}

-- 01 00 02 00: with the weights reversed the second element is 512, and so are the two bytes from 1 on
abbrev pub four : List ℕ
four = 1 ∷ 0 ∷ 2 ∷ 0 ∷ []

pub second_of_two_bytes : Fetched four (1 * 2) 2 2 × ((r : ℕ) → Fetched four (1 * 2) 2 r → r ≡ 2)
second_of_two_bytes = (pattern_is_fetched four 2 1 (lit< tt, (lit< tt, (lit< tt, (lit< tt, tt)))) (lit≤ tt), λ r f. f.sum)

-- ff 00 00 00 00 00 00 00 02 00 00 00 00 00 00 80
abbrev pub sixteen : List ℕ
sixteen = 255 ∷ 0 ∷ 0 ∷ 0 ∷ 0 ∷ 0 ∷ 0 ∷ 0 ∷ 2 ∷ 0 ∷ 0 ∷ 0 ∷ 0 ∷ 0 ∷ 0 ∷ 128 ∷ []

pub second_of_eight_bytes : Fetched sixteen (1 * 8) 8 9223372036854775810 × ((r : ℕ) → Fetched sixteen (1 * 8) 8 r → r ≡ 9223372036854775810)
second_of_eight_bytes = (pattern_is_fetched sixteen 8 1 (lit< tt, (lit< tt, (lit< tt, (lit< tt, (lit< tt, (lit< tt, (lit< tt, (lit< tt, (lit< tt, (lit< tt, (lit< tt, (lit< tt, (lit< tt, (lit< tt, (lit< tt, (lit< tt, tt)))))))))))))))) (lit≤ tt), λ r f. f.sum)

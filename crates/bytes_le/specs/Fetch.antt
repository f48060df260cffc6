-- Internal: what the fetch of an element gives.
use Rattle.std.specs.Prelude.{◌≡◌, List, ℕ, zero, suc, ◌+◌, ◌*◌, ◌^◌, ◌<◌, get_or, take, drop}
use Rattle.bytes_le.specs.Bytes.{from_le, to_le}

-- "the sum of the element's bytes, each times 256 to its place in the element": `sum_at s a n` has the n bytes of s from a on, by index
abbrev pub sum_at : List ℕ → ℕ → ℕ → ℕ
sum_at s a zero = 0
sum_at s a (suc k) = sum_at s a k + get_or s (a + k) 0 * 256 ^ k

-- r is that sum over the w bytes of s from a on: their pattern, below 256 to the w, with these bytes, and no other such number has them
pub record Fetched (s : List ℕ) (a w r : ℕ) : Type 0 where
  pub sum : r ≡ sum_at s a w
  pub pattern : r ≡ from_le (take w (drop a s))
  pub fits : r < 256 ^ w
  pub bytes : to_le w r ≡ take w (drop a s)
  pub only : (v : ℕ) → v < 256 ^ w → to_le w v ≡ take w (drop a s) → v ≡ r

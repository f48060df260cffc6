-- To be believed: what is written at a place of a lent buffer, all else kept.
use Rattle.std.specs.Prelude.{◌≡◌, List, ◌++◌, ℕ, ◌+◌, ◌≤◌, length, take, drop}

-- xs stands at the place a of what was d; r is the place after it
pub record Wrote (d : List ℕ) (a : ℕ) (xs : List ℕ) (r : ℕ) (d' : List ℕ) : Type 0 where
  pub next : r ≡ a + length xs
  pub within : r ≤ length d
  pub bytes : d' ≡ take a d ++ (xs ++ drop r d)

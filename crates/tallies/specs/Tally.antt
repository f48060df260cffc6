-- Internal: the five counts in a row, while a call runs, and behind them a place that counts no element.
use Rattle.std.specs.Prelude.{◌≡◌, List, [], ◌∷◌, ℕ, ◌+◌, ◌^◌, ◌<◌, length, get_or, set}
use Rattle.counts.specs.Counts.{count_of}
use Rattle.counts.specs.OneMore.{counted}
use Rattle.counts.specs.declared.Counts.{Counts}
use Rattle.counts.specs.declared.Fared.{Fared}

abbrev pub no_tally : List ℕ
no_tally = 0 ∷ 0 ∷ 0 ∷ 0 ∷ 0 ∷ 0 ∷ []

-- the counts in a row
abbrev pub counts_in : List ℕ → Counts
counts_in t = record { mapped = get_or t 0 0; exact = get_or t 1 0; rounded = get_or t 2 0; clamped = get_or t 3 0; wrapped = get_or t 4 0 }

-- ---- one more at a place
abbrev pub one_more_at : ℕ → List ℕ → List ℕ
one_more_at k t = set t k (get_or t k 0 + 1)

-- a tally has room for that
pub record CountableAt (k : ℕ) (t : List ℕ) : Type 0 where
  pub six : length t ≡ 6
  pub place : k < 6
  pub room : get_or t k 0 + 1 < 2 ^ 64

-- ---- one element more that fared so
-- a tally has room for that
pub record Countable (t : List ℕ) : Type 0 where
  pub six : length t ≡ 6
  pub room : (f : Fared) → count_of f (counts_in t) + 1 < 2 ^ 64

-- and t' has one more that fared so
pub record Tallied (f : Fared) (t t' : List ℕ) : Type 0 where
  pub six : length t' ≡ 6
  pub counts : counts_in t' ≡ counted f (counts_in t)

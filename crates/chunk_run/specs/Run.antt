-- Internal: a run of the first n positions.
use Rattle.std.specs.Prelude.{◌≡◌, List, ℕ, ◌*◌, ◌≤◌, length}
use Rattle.bytes_le.specs.Bytes.{pattern_at}
use Rattle.answers.specs.declared.Reply.{Reply}
use Rattle.cast_spec.specs.Element as E
use Rattle.cast_spec.specs.Element.{outcome_of}
use Rattle.cast_spec.specs.Chunk.{answer_from, bytes_from, converted_of, counts_below}
use Rattle.chunk_element.specs.declared.Settings.{Settings}
use Rattle.chunk_element.specs.Settings.{MapReady}
use Rattle.answers.specs.Outcome.{Outcome}

pub record RunReady (s : Settings) (keys targets src dst : List ℕ) (n : ℕ) : Type 0 where
  pub map : MapReady s keys targets
  pub source : n * s.sw ≤ length src
  pub target : n * s.dw ≤ length dst

-- the outcome by position
abbrev pub outcomes : E.Settings → ℕ → List ℕ → ℕ → Outcome
outcomes S sw src i = outcome_of S (pattern_at sw src i)

pub record Ran (S : E.Settings) (sw dw : ℕ) (src dst : List ℕ) (n : ℕ) (r : Reply) (dst' : List ℕ) : Type 0 where
  pub answer : r.answer ≡ answer_from (outcomes S sw src) 0 n
  pub counts : r.counts ≡ counts_below (outcomes S sw src) (converted_of n r.answer)
  pub bytes : dst' ≡ bytes_from (outcomes S sw src) dw 0 n dst

-- Internal: one element of a chunk, with its map, and the answer to its refusal.
use Rattle.std.specs.Prelude.{List, ℕ, ◌+◌, ◌^◌, ◌≤◌, ◌<◌, length}
use Rattle.patterns.specs.Kind.{bits}
use Rattle.patterns.specs.Pattern.{as_f64}
use Rattle.patterns.specs.Value.{value_of}
use Rattle.kinds.specs.Row.{kind_in}
use Rattle.cast_spec.specs.Element.{lookup_of}
use Rattle.cast_spec.specs.Chunk.{answer_next}
use Rattle.cast_spec.specs.Fit.{filled}
use Rattle.chunk_element.specs.declared.Settings.{Settings}
use Rattle.chunk_element.specs.Settings.{MapReady, Ready, settings_for}
use Rattle.answers.specs.Outcome.{Answer, Fit}
use Rattle.std.specs.Prelude.{Ok, Option}

-- an element's pattern, and settings for it
pub record ElementReady (b : ℕ) (s : Settings) (keys targets : List ℕ) : Type 0 where
  pub map : MapReady s keys targets
  pub fits : b < 2 ^ bits (kind_in s.source)

abbrev pub looked_up : Settings → List ℕ → List ℕ → ℕ → Option ℕ
looked_up s keys targets b = lookup_of (kind_in s.source) (value_of (kind_in s.source) b) (settings_for s keys targets).entries

-- an element of the source at the byte a
pub record SourceReady (s : Settings) (src : List ℕ) (a : ℕ) : Type 0 where
  pub ready : Ready s
  pub within : a + s.sw ≤ length src

-- and the map is whole: what `fit_at` asks
pub record FitReady (s : Settings) (keys targets src : List ℕ) (a : ℕ) : Type 0 where
  pub map : MapReady s keys targets
  pub within : a + s.sw ≤ length src

-- the answer to the refusal of the pattern b at a position
abbrev pub refused_answer : Settings → ℕ → ℕ → Fit → Answer
refused_answer s b i r = answer_next (filled (kind_in s.target) (as_f64 (kind_in s.source) b) r) i (Ok tt)

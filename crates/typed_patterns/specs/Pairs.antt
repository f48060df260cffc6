-- Internal: what holds of a pair of kinds, by the numbers of the source and those of the target.
use Rattle.std.specs.Prelude.{◌≡◌, List, map, ℕ, ◌<◌, ◌^◌}
use Rattle.bytes_le.specs.Bytes.{to_le}
use Rattle.patterns.specs.Kind.{bits, width}
use Rattle.kinds.specs.Table.{kind_of}
use Rattle.counts.specs.declared.Fared.{Fared}
use Rattle.cast_spec.specs.Element.{Entry, Settings, outcome_of}
use Rattle.answers.specs.Outcome.{stored_as}

-- a map entry of a key and a target, by their patterns
abbrev pub pair_entry : {X Y : Type 0} → (X → ℕ) → (Y → ℕ) → X × Y → Entry
pair_entry source target p = record { key = source p.0; target = target p.1 }

pub record PairLaws {X Y : Type 0} (from to : ℕ) (source : X → ℕ) (target : Y → ℕ) (read : ℕ → Y) : Type 0 where
  pub from_listed : from < 11
  pub to_listed : to < 11
  pub source_fits : (x : X) → source x < 2 ^ bits (kind_of from)
  pub target_fits : (y : Y) → target y < 2 ^ bits (kind_of to)
  -- a pattern that is stored is the one that the number read from it has
  pub keeps : (s : Settings) → s.from ≡ kind_of from → s.to ≡ kind_of to → (entries : List (X × Y)) → s.entries ≡ map (pair_entry source target) entries → (x : X) (b : ℕ) (f : Fared) → outcome_of s (source x) ≡ stored_as b f
      → to_le (width (kind_of to)) (target (read b)) ≡ to_le (width (kind_of to)) b

-- Internal: the settings of a call as a program has them.
use Rattle.std.specs.Prelude.{◌≡◌, List, ℕ, ◌*◌, length}
use Rattle.bytes_le.specs.Bytes.{Width}
use Rattle.patterns.specs.Kind.{bits}
use Rattle.kinds.specs.Row.{kind_in, FormatRow}
use Rattle.cast_spec.specs.Element as E
use Rattle.cast_spec.specs.Chunk.{entries_from}
use Rattle.routes.specs.Route.{route_of}
use Rattle.chunk_element.specs.declared.Settings.{Settings}

-- the definitions' settings of those that a program has, with the map's bytes
abbrev pub settings_for : Settings → List ℕ → List ℕ → E.Settings
settings_for s keys targets = record { from = kind_in s.source; to = kind_in s.target; rule = s.rounding; range = s.range; entries = entries_from s.sw s.dw keys targets 0 s.entries }

-- the formats are rows of the table with their route and widths
pub record Ready (s : Settings) : Type 0 where
  pub source_row : FormatRow s.source
  pub target_row : FormatRow s.target
  pub route : s.route ≡ route_of s.source s.target
  pub source_width : Width s.sw
  pub target_width : Width s.dw
  pub source_bits : bits (kind_in s.source) ≡ 8 * s.sw

-- and the map is whole
pub record MapReady (s : Settings) (keys targets : List ℕ) : Type 0 where
  pub ready : Ready s
  pub keys_whole : length keys ≡ s.entries * s.sw
  pub targets_whole : length targets ≡ s.entries * s.dw

-- Internal: the settings of a call's codes.
use Rattle.std.specs.Prelude.{ℕ, ◌/◌}
use Rattle.patterns.specs.Kind.{width}
use Rattle.kinds.specs.Table.{kind_of}
use Rattle.codes.specs.Codes.{rounding_of, range_of}
use Rattle.kinds.specs.Row.{format_of}
use Rattle.routes.specs.Route.{route_of}
use Rattle.chunk_element.specs.declared.Settings.{Settings}

-- the settings of the codes, where the map has so many bytes of keys
abbrev pub settings_by : ℕ → ℕ → ℕ → ℕ → ℕ → Settings
settings_by from to rounding range keys = record {
  source = format_of (kind_of from);
  target = format_of (kind_of to);
  route = route_of (format_of (kind_of from)) (format_of (kind_of to));
  rounding = rounding_of rounding;
  range = range_of range;
  sw = width (kind_of from);
  dw = width (kind_of to);
  entries = keys / width (kind_of from);
}

-- The settings of a call whose codes are listed.
use mathlib.Core.Path.{◌≡◌, ap, ap₂, ◌∙◌}
use Prim.Native.Nat.{ℕ, ◌/◌}
use Rattle.chunk_element.specs.declared.Settings.{Settings}
use Rattle.chunk_settings.specs.Settings.{settings_by}
use Rattle.kinds.specs.Table.{kind_of}
use Rattle.codes.specs.Codes.{range_of, rounding_of}
use Rattle.kinds.specs.declared.KindRow.{KindRow}
use Rattle.codes.specs.declared.OutOfRangeMode.{OutOfRangeMode}
use Rattle.grid.specs.declared.RoundingMode.{RoundingMode}
use Rattle.patterns.specs.Kind.{width}
use Rattle.kinds.specs.Row.{format_of, row_of}
use Rattle.routes.specs.declared.Route.{Route}
use Rattle.routes.specs.Route.{route_of}

pub settings_are : (from to rounding range keys : ℕ) (k : Route) (x y : KindRow) (r : RoundingMode) (g : OutOfRangeMode) → k ≡ route_of x.format y.format → x ≡ row_of (kind_of from) → y ≡ row_of (kind_of to) → r ≡ rounding_of rounding → g ≡ range_of range
    → record { source = x.format; target = y.format; route = k; rounding = r; range = g; sw = x.bytes; dw = y.bytes; entries = keys / x.bytes } ≡ settings_by from to rounding range keys
settings_are from to rounding range keys k x y r g ek ex ey er eg =
    ap {B = Settings} (λ (c : Route). record { source = x.format; target = y.format; route = c; rounding = r; range = g; sw = x.bytes; dw = y.bytes; entries = keys / x.bytes }) ek
    ∙ ap₂ {C = Settings} (λ (a b : KindRow). record { source = a.format; target = b.format; route = route_of a.format b.format; rounding = r; range = g; sw = a.bytes; dw = b.bytes; entries = keys / a.bytes }) ex ey
    ∙ ap₂ {C = Settings} (λ (a : RoundingMode) (b : OutOfRangeMode). record { source = format_of (kind_of from); target = format_of (kind_of to); route = route_of (format_of (kind_of from)) (format_of (kind_of to)); rounding = a; range = b; sw = width (kind_of from); dw = width (kind_of to); entries = keys / width (kind_of from) }) er eg

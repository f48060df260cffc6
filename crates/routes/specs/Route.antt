-- Internal: which of the "Four element conversions" two kinds take.
use Rattle.std.specs.Prelude.{◌≡◌, cond, ◌&&◌, eqb}
use Rattle.std.specs.Bool.{beq}
use Rattle.patterns.specs.Kind.{Kind}
use Rattle.kinds.specs.Row.{integer_of, float_of, kind_in, IntegerRow, FloatRow, FormatRow}
use Rattle.kinds.specs.declared.FloatFormat.{FloatFormat}
use Rattle.kinds.specs.declared.IntegerFormat.{IntegerFormat}
use Rattle.kinds.specs.declared.Format.{Format}
use Rattle.kinds.specs.declared.Format.TheVariants.{Integer, Float}
use Rattle.routes.specs.declared.Route.{Route}
use Rattle.routes.specs.declared.Route.TheVariants.{Same, IntToInt, IntToFloat, FloatToInt, FloatToFloat}

-- the same kind, or the conversion that rounds nothing
abbrev pub integer_route : IntegerFormat → IntegerFormat → Route
integer_route f t = cond (eqb f.bits t.bits && beq f.signed t.signed) (Same (Integer f)) (IntToInt f t)

abbrev pub float_route : FloatFormat → FloatFormat → Route
float_route f t = cond (eqb f.precision t.precision) (Same (Float f)) (FloatToFloat f t)

abbrev pub route_of : Format → Format → Route
route_of (Integer f) (Integer t) = integer_route f t
route_of (Integer f) (Float t) = IntToFloat f t
route_of (Float f) (Integer t) = FloatToInt f t
route_of (Float f) (Float t) = float_route f t

-- the source kind and the target kind
abbrev pub source_of : Route → Kind
source_of (Same f) = kind_in f
source_of (IntToInt f t) = integer_of f
source_of (IntToFloat f t) = integer_of f
source_of (FloatToInt f t) = float_of f
source_of (FloatToFloat f t) = float_of f

abbrev pub target_of : Route → Kind
target_of (Same f) = kind_in f
target_of (IntToInt f t) = integer_of t
target_of (IntToFloat f t) = float_of t
target_of (FloatToInt f t) = integer_of t
target_of (FloatToFloat f t) = float_of t

-- the formats are rows of the table, and two float formats differ
abbrev pub RouteRow : Route → Type 0
RouteRow (Same f) = FormatRow f
RouteRow (IntToInt f t) = IntegerRow f × IntegerRow t
RouteRow (IntToFloat f t) = IntegerRow f × FloatRow t
RouteRow (FloatToInt f t) = FloatRow f × IntegerRow t
RouteRow (FloatToFloat f t) = FloatRow f × FloatRow t × (f.precision ≡ t.precision → ⊥)

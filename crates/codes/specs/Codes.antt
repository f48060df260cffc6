-- To be believed: the codes of a call: roundings and range choices, and which of them are barred with which kinds.
use Rattle.std.specs.Prelude.{Bool, ◌&&◌, ℕ, zero, suc, eqb}
use Rattle.grid.specs.declared.RoundingMode.{RoundingMode}
use Rattle.grid.specs.declared.RoundingMode.TheVariants.{NearestEven, TowardsZero, TowardsPositive, TowardsNegative, NearestAway}
use Rattle.patterns.specs.Kind.{is_float}
use Rattle.kinds.specs.Table.{kind_of}
use Rattle.codes.specs.declared.OutOfRangeMode.{OutOfRangeMode}
use Rattle.codes.specs.declared.OutOfRangeMode.TheVariants.{None, Clamp, Wrap}

-- "Rounding codes 0 to 4, in the order of `RoundingMode`"
abbrev pub rounding_of : ℕ → RoundingMode
rounding_of zero = NearestEven
rounding_of (suc zero) = TowardsZero
rounding_of (suc (suc zero)) = TowardsPositive
rounding_of (suc (suc (suc zero))) = TowardsNegative
rounding_of (suc (suc (suc (suc n)))) = NearestAway

-- "Range codes: 0 none, 1 clamp, 2 wrap."
abbrev pub range_of : ℕ → OutOfRangeMode
range_of zero = None
range_of (suc zero) = Clamp
range_of (suc (suc n)) = Wrap

-- "wrap with target kind f32 or f64", which the codec text does not permit; "From now on 8 bars wrap to f16 too"
abbrev pub wrap_barred : ℕ → ℕ → Bool
wrap_barred to range = eqb range 2 && is_float (kind_of to)

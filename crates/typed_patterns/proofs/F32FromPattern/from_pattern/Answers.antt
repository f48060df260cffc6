-- A NaN, or the float of the bits.
use Rattle.std.proofs.Common.{◌%◌, ◌^◌}
use lib.Ieee.{binary32, div, of_bits}
use Rattle.typed_patterns.proofs.NanPatterns.{nan_pattern_lem, no_nan_pattern}
use Rattle.typed_patterns.proofs.F32FromPattern.from_pattern.Goals as goal

pub returns-then-low-gt2139095040 : goal.returns-then-low-gt2139095040
unfolding div of_bits
returns-then-low-gt2139095040 c = nan_pattern_lem binary32 (c.args.b % 2 ^ 32) c.if-low-gt2139095040.true

pub float_from_bits-result : goal.float_from_bits-result
float_from_bits-result c = no_nan_pattern binary32 (c.args.b % 2 ^ 32) c.if-low-gt2139095040.false

-- The quiet NaN's pattern is that of each NaN.
use lib.Ieee.{binary32, to_bits, fits}
use Rattle.typed_values.proofs.Patterns.{nan_bits}
use Rattle.typed_values.proofs.F32Number.pattern.Goals as goal

pub returns-then-is_nan : goal.returns-then-is_nan
unfolding to_bits fits
returns-then-is_nan c = nan_bits binary32 c.args.self c.if-is_nan.ensures.value

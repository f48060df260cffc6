-- Leading zeros and significant bits make 64.
use Rattle.std.proofs.Common.{arith}
use Rattle.integer_rounding.proofs.SignificantBits.{leading_size}
use Rattle.integer_rounding.proofs.significant_bits.Goals as goal

pub returns : goal.returns
returns c = omega (arith, leading_size 64 c.args.magnitude (omega arith))

-- A field of ones over a fraction of 0.
use Rattle.std.proofs.Common.{arith}
use Rattle.patterns.proofs.Shifts.{infinity_shifted}
use Rattle.float_range.proofs.infinity_bits.Goals as goal

pub returns : goal.returns
returns c = infinity_shifted c.args.p c.args.w (omega arith) (omega arith)

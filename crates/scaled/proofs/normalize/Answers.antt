-- The leading zeros say by how many places the number moves up.
use Rattle.std.proofs.Common.{arith}
use Rattle.scaled.proofs.Normalized.{zero_normalized, zeros_between, normalized}
use Rattle.scaled.proofs.normalize.Goals as goal

pub returns-then-n-eq0 : goal.returns-then-n-eq0
returns-then-n-eq0 c = let a = c.args in zero_normalized a.n a.exponent c.if-n-eq0.true

pub overflow_sub-result : goal.overflow_sub-result
overflow_sub-result c = omega (arith, zeros_between c.args.n c.args.exponent c.if-n-eq0.false c.requires.0 c.requires.1)

pub returns : goal.returns
returns c = normalized c.args.n c.args.exponent c.if-n-eq0.false c.requires.0 c.requires.1

-- The highest bit is set over the top of the fraction.
use Rattle.narrowing.proofs.Formats.{quiet_shifted}
use Rattle.narrowing.proofs.quiet_fraction.Goals as goal

pub returns : goal.returns
returns c = quiet_shifted c.args.p c.args.fraction c.requires.0 c.requires.1 c.requires.2

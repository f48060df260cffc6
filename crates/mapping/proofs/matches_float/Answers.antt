-- By the law of any format: mask and infinity are those of p and w.
use Rattle.std.proofs.Common.{◌+◌, ◌-◌, arith}
use Rattle.patterns.proofs.Shifts.{one_shifted, infinity_shifted}
use Rattle.mapping.proofs.Floats.{nan_matches, zeros_match}
use Rattle.mapping.proofs.matches_float.Goals as goal

pub returns-then-infinity-k : goal.returns-then-infinity-k
returns-then-infinity-k c s =
    let a = c.args in
    nan_matches a.p a.w s c.requires.two c.requires.positive a.a a.key (one_shifted (a.w + a.p - 1) (omega arith)) (infinity_shifted a.p a.w (omega arith) c.requires.at_most_64) c.if-infinity-k.true

pub returns : goal.returns
returns c s =
    let a = c.args in
    zeros_match a.p a.w s c.requires.two c.requires.positive a.a a.key (one_shifted (a.w + a.p - 1) (omega arith)) (infinity_shifted a.p a.w (omega arith) c.requires.at_most_64) c.requires.fits c.requires.key_fits c.if-a-key.false c.if-infinity-k.false

-- At each return the pick of a number with such an exponent.
use Rattle.std.proofs.Common.{arith}
use Rattle.whole_numbers.proofs.WholeNumbers.{low_is, up_is, high_is}
use Rattle.whole_numbers.proofs.round_to_whole.Goals as goal

pub returns-then-exponent-lt1074 : goal.returns-then-exponent-lt1074
returns-then-exponent-lt1074 c =
    let a = c.args in
    low_is a.negative a.mode a.x.significand a.x.exponent c.requires c.round_shift-rounded.result c.at_most_63.result (omega arith) c.if-exponent-lt1074.true c.at_most_63.ensures c.round_shift-rounded.ensures

pub returns-then-exponent-lt1138 : goal.returns-then-exponent-lt1138
returns-then-exponent-lt1138 c = let a = c.args in up_is a.negative a.mode a.x.significand a.x.exponent c.requires c.if-exponent-lt1074.false

pub returns : goal.returns
returns c = let a = c.args in high_is a.negative a.mode a.x.significand a.x.exponent c.requires c.if-exponent-lt1138.false

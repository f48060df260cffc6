-- Each branch lies between two powers of ten.
use Rattle.std.proofs.Common.{arith}
use Rattle.text.proofs.Numbers.{one_place, places_are}
use Rattle.text.proofs.decimal_places.Goals as goal

pub returns-then-v-lt10 : goal.returns-then-v-lt10
returns-then-v-lt10 c = one_place c.args.v c.if-v-lt10.true

pub returns-then-v-lt100 : goal.returns-then-v-lt100
returns-then-v-lt100 c = places_are 0 c.args.v (omega arith) (omega arith) (omega arith)

pub returns-then-v-lt1000 : goal.returns-then-v-lt1000
returns-then-v-lt1000 c = places_are 1 c.args.v (omega arith) (omega arith) (omega arith)

pub returns-else-v-lt1000 : goal.returns-else-v-lt1000
returns-else-v-lt1000 c = places_are 2 c.args.v (omega arith) (omega arith) (omega arith)

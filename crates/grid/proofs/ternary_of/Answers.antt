-- Each return is what the two tests tell.
use Rattle.std.proofs.Common.{Bool, cond, sym, ap, ap₂}
use mathlib.Core.Bool.{beq}
use Rattle.grid.specs.declared.Ternary.TheVariants.{Exact, Below, Above}
use Rattle.grid.proofs.Sides.{told_is}
use Rattle.grid.proofs.ternary_of.Goals as goal

pub returns-then-exact : goal.returns-then-exact
returns-then-exact c = let a = c.args in told_is a.exact a.larger a.negative Exact (ap (λ (b : Bool). cond b Exact (cond (beq a.larger a.negative) Below Above)) (sym c.if-exact.true))

pub returns-then-larger-negative : goal.returns-then-larger-negative
returns-then-larger-negative c = let a = c.args in told_is a.exact a.larger a.negative Below (ap₂ (λ (b d : Bool). cond b Exact (cond d Below Above)) (sym c.if-exact.false) (sym c.if-larger-negative.true))

pub returns : goal.returns
returns c = let a = c.args in told_is a.exact a.larger a.negative Above (ap₂ (λ (b d : Bool). cond b Exact (cond d Below Above)) (sym c.if-exact.false) (sym c.if-larger-negative.false))

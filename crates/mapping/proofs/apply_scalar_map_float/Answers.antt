-- The entry at j matches or does not.
use Rattle.mapping.proofs.Entries.{found, passed}
use Rattle.mapping.proofs.apply_scalar_map_float.Goals as goal

pub returns-then-matches_float : goal.returns-then-matches_float
returns-then-matches_float c = found c.loop-j.invariant c.loop-j-test.true c.fetch-key.ensures.pattern (c.matches_float.ensures _) c.if-matches_float.true c.fetch.ensures.pattern

pub loop-j-preserved : goal.loop-j-preserved
loop-j-preserved c = passed c.loop-j.invariant c.loop-j-test.true c.fetch-key.ensures.pattern (c.matches_float.ensures _) c.if-matches_float.false

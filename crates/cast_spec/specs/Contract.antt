-- To be believed: the contract of a call that converts: over its inputs, what it returns and the destination d at exit.
use Rattle.std.specs.Prelude.{◌≡◌, List, ℕ}
use Rattle.answers.specs.declared.Reply.{Reply}
use Rattle.cast_spec.specs.Chunk.{Inputs, call_of, answer_of, counts_of, destination_of, result_at}
use Rattle.cast_spec.specs.Counted.{Counted}
use Rattle.cast_spec.specs.Demand1.{Demand1}
use Rattle.cast_spec.specs.Demand3.{Demand3}

-- "every answer field and every destination byte, for refusals as for successes, by an equation with a definition over the inputs alone"; and the
-- request's demands and the counts' classes, which say what these definitions mean
pub record Contract (I : Inputs) (r : Reply) (d : List ℕ) : Type 0 where
  pub answer : r.answer ≡ answer_of I
  pub counts : r.counts ≡ counts_of I
  pub bytes : d ≡ destination_of I
  pub demand1 : Demand1 I r.answer d
  pub demand3 : Demand3 (call_of I) r.answer (result_at I d)
  pub counted : Counted (call_of I) r.answer r.counts

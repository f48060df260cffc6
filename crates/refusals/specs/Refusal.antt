-- Internal: the answer that the refusal of an element is, by the papers' number and values.
use Rattle.std.specs.Prelude.{◌≡◌, ℕ}
use Rattle.answers.specs.Answer.{number_of, values_of, outcome_number, outcome_values}
use Rattle.cast_spec.specs.Chunk.{answer_next}
use Rattle.answers.specs.Outcome.{Answer, Outcome}
use Rattle.std.specs.Prelude.{Ok}

-- r is the answer where the element at the position i comes to o: `Ok` where o is stored
pub record RefusalOf (i : ℕ) (o : Outcome) (r : Answer) : Type 0 where
  pub answer : r ≡ answer_next o i (Ok tt)
  pub number : number_of r ≡ outcome_number o
  pub values : values_of r ≡ outcome_values i o

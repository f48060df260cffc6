-- The answer to a refusal has the number and the values of its outcome.
use mathlib.Core.Path.{◌≡◌, refl, ap, ◌∙◌}
use Prim.Native.Nat.{ℕ}
use Rattle.answers.specs.Answer.{number_of, values_of, outcome_number, outcome_values}
use Rattle.cast_spec.specs.Chunk.{answer_next}
use Rattle.refusals.specs.Refusal.{RefusalOf}
use Rattle.answers.specs.Outcome.{Answer, Outcome}
use Rattle.answers.specs.declared.ElementRefusal.TheVariants.{FloatOutOfRange, NanOrInf, OutOfRange}
use Rattle.std.specs.Prelude.{Err, Ok}

pub refusal_of_lem : (i : ℕ) (o : Outcome) (r : Answer) → r ≡ answer_next o i (Ok tt) → RefusalOf i o r
refusal_of_lem i o r e = record { answer = e; number = ap number_of e ∙ (same o).0; values = ap values_of e ∙ (same o).1 }
  where
    same : (o : Outcome) → (number_of (answer_next o i (Ok tt)) ≡ outcome_number o) × (values_of (answer_next o i (Ok tt)) ≡ outcome_values i o)
    same (Ok s) = (refl, refl)
    same (Err (NanOrInf v)) = (refl, refl)
    same (Err (OutOfRange v lo hi)) = (refl, refl)
    same (Err (FloatOutOfRange v lo hi)) = (refl, refl)

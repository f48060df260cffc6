-- To be believed: what an exported call returns: the papers' number, the values of the answer and the counts as fields of 64 bits, and the destination.
use Rattle.std.specs.Prelude.{◌≡◌, List, [], ◌∷◌, ◌++◌, ℕ, length}
use Rattle.answers.specs.Answer.{number_of, values_of}
use Rattle.counts.specs.declared.Counts.{Counts}
use Rattle.cast_spec.specs.Chunk.{Inputs, call_of, answer_of, counts_of, destination_of, result_at}
use Rattle.cast_spec.specs.Counted.{Counted, HowMany}
use Rattle.cast_spec.specs.Demand1.{Demand1}
use Rattle.cast_spec.specs.Demand3.{Demand3}
use Rattle.cast_spec.specs.Preview.{preview_of, Changes}
use Rattle.answers.specs.Outcome.{Answer}

-- the column "returned" of the table "What the chunk call answers", each value in a place of its own, 0 where an answer has no such value
abbrev pub value_fields : Answer → List ℕ
value_fields a = let v = values_of a in v.source_count ∷ v.destination_count ∷ v.position ∷ v.value ∷ v.lowest ∷ v.highest ∷ []

-- "five counts: mapped, exact, rounded, clamped, wrapped"
abbrev pub count_fields : Counts → List ℕ
count_fields c = c.mapped ∷ c.exact ∷ c.rounded ∷ c.clamped ∷ c.wrapped ∷ []

abbrev pub fields_of : Answer → Counts → List ℕ
fields_of a c = value_fields a ++ count_fields c

-- the inputs, the number and the fields that come back, and the destination at exit: as in `Contract`, the equations, the demands and the counts' classes
pub record Returned (I : Inputs) (n : ℕ) (fields d : List ℕ) : Type 0 where
  pub number : n ≡ number_of (answer_of I)
  pub answer : fields ≡ fields_of (answer_of I) (counts_of I)
  pub bytes : d ≡ destination_of I
  pub demand1 : Demand1 I (answer_of I) d
  pub demand3 : Demand3 (call_of I) (answer_of I) (result_at I d)
  pub counted : Counted (call_of I) (answer_of I) (counts_of I)

-- of a preview, with the number of bytes that would change; as in `Previewed`
pub record ReturnedPreview (I : Inputs) (n : ℕ) (fields : List ℕ) (m : ℕ) : Type 0 where
  pub number : n ≡ number_of (answer_of I)
  pub answer : fields ≡ fields_of (answer_of I) (counts_of I)
  pub changed : m ≡ (preview_of I).changed
  pub demand1 : Demand1 I (answer_of I) (destination_of I)
  pub counted : Counted (call_of I) (answer_of I) (counts_of I)
  pub changes : HowMany (Changes I) (length I.destination) m

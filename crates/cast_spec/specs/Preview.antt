-- To be believed: the contract of a preview, over the inputs of the call and what the preview p returns.
use Rattle.std.specs.Prelude.{◌≡◌, ◌≢◌, ℕ, length, get_or}
use Rattle.hamming.specs.Distance.{distance}
use Rattle.answers.specs.declared.Preview.{Preview}
use Rattle.cast_spec.specs.Chunk.{Inputs, call_of, answer_of, counts_of, destination_of}
use Rattle.cast_spec.specs.Counted.{Counted, HowMany}
use Rattle.cast_spec.specs.Demand1.{Demand1}

-- "the full answer, refusal and counts included", "equals the answer of converting into a copy of the destination";
-- "a second figure says how many destination bytes would change"
unfoldable pub preview_of : Inputs → Preview
preview_of I = record { reply = record { answer = answer_of I; counts = counts_of I }; changed = distance I.destination (destination_of I) }

-- the byte at the place j of the destination would change
abbrev pub Changes : Inputs → ℕ → Type 0
Changes I j = get_or I.destination j 0 ≢ get_or (destination_of I) j 0

-- as in `Contract`, the equations, and what they mean; the destination is lent for reading alone
pub record Previewed (I : Inputs) (p : Preview) : Type 0 where
  pub figures : p ≡ preview_of I
  pub demand1 : Demand1 I p.reply.answer (destination_of I)
  pub counted : Counted (call_of I) p.reply.answer p.reply.counts
  pub changes : HowMany (Changes I) (length I.destination) p.changed

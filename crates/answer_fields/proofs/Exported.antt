-- The chunk call's reply and its preview, handed out as a number, fields and a figure, are the definitions'.
use mathlib.Core.List.{List}
use mathlib.Core.Path.{◌≡◌, ap, ap₂, ◌∙◌, subst}
use Prim.Native.Nat.{ℕ}
use Rattle.counts.specs.declared.Counts.{Counts}
use Rattle.answers.specs.declared.Preview.{Preview}
use Rattle.answers.specs.declared.Reply.{Reply}
use Rattle.answers.specs.Answer.{number_of}
use Rattle.cast_spec.specs.Chunk.{Inputs, call_of, answer_of, destination_of, result_at}
use Rattle.cast_spec.specs.Counted.{Counted}
use Rattle.cast_spec.specs.Demand1.{Demand1}
use Rattle.cast_spec.specs.Demand3.{Demand3}
use Rattle.cast_spec.specs.Contract.{Contract}
use Rattle.cast_spec.specs.Preview.{preview_of, Previewed}
use Rattle.answer_fields.specs.Returned.{fields_of, Returned, ReturnedPreview}
use Rattle.answers.specs.Outcome.{Answer}

pub exported : (I : Inputs) (r : Reply) (n : ℕ) (fields d : List ℕ) → Contract I r d → n ≡ number_of r.answer → fields ≡ fields_of r.answer r.counts → Returned I n fields d
exported I r n fields d c e f = record {
  number = e ∙ ap number_of c.answer;
  answer = f ∙ ap₂ fields_of c.answer c.counts;
  bytes = c.bytes;
  demand1 = subst (λ (a : Answer). Demand1 I a d) c.answer c.demand1;
  demand3 = subst (λ (a : Answer). Demand3 (call_of I) a (result_at I d)) c.answer c.demand3;
  counted = subst (λ (t : Counts). Counted (call_of I) (answer_of I) t) c.counts (subst (λ (a : Answer). Counted (call_of I) a r.counts) c.answer c.counted);
}

pub exported_preview : (I : Inputs) (p : Preview) (n : ℕ) (fields : List ℕ) → Previewed I p → n ≡ number_of p.reply.answer → fields ≡ fields_of p.reply.answer p.reply.counts → ReturnedPreview I n fields p.changed
unfolding preview_of
exported_preview I p n fields P e f = record {
  number = e ∙ ap (λ (q : Preview). number_of q.reply.answer) P.figures;
  answer = f ∙ ap (λ (q : Preview). fields_of q.reply.answer q.reply.counts) P.figures;
  changed = ap (λ (q : Preview). q.changed) P.figures;
  demand1 = subst (λ (q : Preview). Demand1 I q.reply.answer (destination_of I)) P.figures P.demand1;
  counted = subst (λ (q : Preview). Counted (call_of I) q.reply.answer q.reply.counts) P.figures P.counted;
  changes = P.changes;
}

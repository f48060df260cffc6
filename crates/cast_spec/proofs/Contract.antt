-- The three equations are all that a program has to show of the contract: the demands and the classes hold of what the definitions give.
use mathlib.Core.Path.{◌≡◌, sym, subst}
use mathlib.Core.List.{List}
use Prim.Native.Nat.{ℕ}
use Rattle.counts.specs.declared.Counts.{Counts}
use Rattle.answers.specs.declared.Reply.{Reply}
use Rattle.cast_spec.specs.Chunk.{Inputs, call_of, answer_of, counts_of, destination_of, result_at}
use Rattle.cast_spec.specs.Counted.{Counted}
use Rattle.cast_spec.specs.Demand1.{Demand1}
use Rattle.cast_spec.specs.Demand3.{Demand3}
use Rattle.cast_spec.specs.Contract.{Contract}
use Rattle.cast_spec.proofs.Counts.{counted}
use Rattle.cast_spec.proofs.Demand1.{demand1}
use Rattle.cast_spec.proofs.Demand3.{demand3}
use Rattle.answers.specs.Outcome.{Answer}

pub contract : (I : Inputs) (r : Reply) (d : List ℕ) → r.answer ≡ answer_of I → r.counts ≡ counts_of I → d ≡ destination_of I → Contract I r d
contract I r d e g f = record {
  answer = e;
  counts = g;
  bytes = f;
  demand1 = subst (λ (z : List ℕ). Demand1 I r.answer z) (sym f) (subst (λ (a : Answer). Demand1 I a (destination_of I)) (sym e) (demand1 I));
  demand3 = subst (λ (z : List ℕ). Demand3 (call_of I) r.answer (result_at I z)) (sym f) (subst (λ (a : Answer). Demand3 (call_of I) a (result_at I (destination_of I))) (sym e) (demand3 I));
  counted = subst (λ (t : Counts). Counted (call_of I) r.answer t) (sym g) (subst (λ (a : Answer). Counted (call_of I) a (counts_of I)) (sym e) (counted I));
}

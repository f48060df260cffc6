-- A call whose checks came to a refusal, and one that ran over all its positions: each meets the contract, and its preview does.
use mathlib.Core.Path.{◌≡◌, sym, ap, subst, ◌∙◌}
use mathlib.Core.Bool.{true}
use mathlib.Core.List.{List}
use Prim.Native.Nat.{ℕ}
use native.Mathlib.Nat.{le_of_eq}
use Rattle.hamming.specs.Distance.{distance}
use Rattle.hamming.proofs.Distances.{same_0}
use Rattle.answers.specs.Answer.{unconverted}
use Rattle.answers.specs.declared.Preview.{Preview}
use Rattle.answers.specs.declared.Reply.{Reply}
use Rattle.cast_spec.specs.Chunk.{Inputs, sw, dw, checks_of, all_pass, call_of, outcome_at, settings_of, answer_from, answer_of, bytes_from, destination_of, converted_of, counts_below, counts_of}
use Rattle.cast_spec.specs.Contract.{Contract}
use Rattle.cast_spec.specs.Preview.{Previewed}
use Rattle.cast_spec.specs.Element as E
use Rattle.cast_spec.proofs.Checks.{answer_is, destination_is, elements_fill, source_filled}
use Rattle.cast_spec.proofs.Contract.{contract}
use Rattle.cast_spec.proofs.Previews.{previewed, preview_is}
use Rattle.cast_spec.proofs.Refusals.{refused_meets}
use Rattle.chunk_element.specs.declared.Settings.{Settings}
use Rattle.chunk_element.specs.Settings.{settings_for}
use Rattle.chunk_run.specs.Run.{RunReady, outcomes, Ran}
use Rattle.chunk_preview.specs.Foreseen.{Foreseen}
use Rattle.chunk_checks.specs.declared.Checked.{Checked}
use Rattle.answers.specs.declared.Refusal.{Refusal}
use Rattle.std.specs.Prelude.{Result, Ok, Err}
use Rattle.chunk_checks.specs.Checked.{settings_from, checked_of}
use Rattle.chunk_checks.proofs.Passing.{refused_is, passed_is, passes, map_ready, settings_same}
use Rattle.answers.specs.Outcome.{Answer}

-- the preview of a call that would leave r and d
foreseen : (I : Inputs) (r : Reply) (d : List ℕ) (c : ℕ) → Contract I r d → c ≡ distance I.destination d → Previewed I (record { reply = r; changed = c })
foreseen I r d c C e = previewed I (record { reply = r; changed = c }) (ap {B = Preview} (λ (n : ℕ). record { reply = r; changed = n }) e ∙ preview_is I r d C)

-- ---- by a refusal
module _ (I : Inputs) (c : Result Checked Refusal) (settled : c ≡ checked_of I) (r : Refusal) (is : c ≡ Err r) where
  pub refused_call : Contract I (unconverted (Err r)) I.destination
  refused_call = refused_meets I (Err r) (refused_is I r (sym settled ∙ is))

  pub refused_preview : Previewed I (record { reply = unconverted (Err r); changed = 0 })
  refused_preview = foreseen I (unconverted (Err r)) I.destination 0 refused_call (sym (same_0 I.destination))

-- ---- by the run
module _ (I : Inputs) (pass : all_pass (checks_of I) ≡ true) where
  asks : RunReady (settings_from I) I.keys I.targets I.source I.destination (call_of I).count
  asks = record { map = map_ready I pass; source = le_of_eq (source_filled I (passes I pass)); target = le_of_eq (elements_fill I (passes I pass)) }

  answers : answer_from (outcomes (settings_of I) (sw I) I.source) 0 (call_of I).count ≡ answer_of I
  unfolding outcome_at call_of
  answers = sym (answer_is I (passes I pass))

  bytes : bytes_from (outcomes (settings_of I) (sw I) I.source) (dw I) 0 (call_of I).count I.destination ≡ destination_of I
  unfolding outcome_at call_of
  bytes = sym (destination_is I (passes I pass))

  counts : (r : Answer) → r ≡ answer_of I → counts_below (outcomes (settings_of I) (sw I) I.source) (converted_of (call_of I).count r) ≡ counts_of I
  unfolding counts_of outcome_at call_of
  counts r e = ap (λ (a : Answer). counts_below (outcomes (settings_of I) (sw I) I.source) (converted_of (call_of I).count a)) e

  meets : (r : Reply) (d : List ℕ) → Ran (settings_for (settings_from I) I.keys I.targets) (sw I) (dw I) I.source I.destination (call_of I).count r d → Contract I r d
  meets r d R =
      let Q : Ran (settings_of I) (sw I) (dw I) I.source I.destination (call_of I).count r d = subst (λ (S : E.Settings). Ran S (sw I) (dw I) I.source I.destination (call_of I).count r d) (settings_same I pass) R in
      let e = Q.answer ∙ answers in
      contract I r d e (Q.counts ∙ counts r.answer e) (Q.bytes ∙ bytes)

module _ (I : Inputs) (c : Result Checked Refusal) (settled : c ≡ checked_of I) (s : Checked) (is : c ≡ Ok s) where
  abbrev k : (all_pass (checks_of I) ≡ true) × (s.settings ≡ settings_from I) × (s.count ≡ (call_of I).count)
  k = passed_is I s (sym settled ∙ is)

  pub run_asks : RunReady s.settings I.keys I.targets I.source I.destination s.count
  run_asks = subst (λ (u : Settings). RunReady u I.keys I.targets I.source I.destination s.count) (sym k.1) (subst (RunReady (settings_from I) I.keys I.targets I.source I.destination) (sym k.2) (asks I k.0))

  pub run_call : (r : Reply) (d : List ℕ) → Ran (settings_for s.settings I.keys I.targets) s.settings.sw s.settings.dw I.source I.destination s.count r d → Contract I r d
  run_call r d R = meets I k.0 r d (subst (λ (n : ℕ). Ran (settings_for (settings_from I) I.keys I.targets) (sw I) (dw I) I.source I.destination n r d) k.2 (subst (λ (u : Settings). Ran (settings_for u I.keys I.targets) u.sw u.dw I.source I.destination s.count r d) k.1 R))

  pub run_preview : (p : Preview) → Foreseen (settings_for s.settings I.keys I.targets) s.settings.sw s.settings.dw I.source I.destination s.count p → Previewed I p
  run_preview p F = foreseen I p.reply F.copy p.changed (run_call p.reply F.copy F.ran) F.changed

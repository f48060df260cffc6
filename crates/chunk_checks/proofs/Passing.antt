-- What a call has whose checks came to a refusal, or whose checks are passed: its settings and its map are ready.
use mathlib.Core.Path.{◌≡◌, refl, sym, ap, ap₂, subst, ◌∙◌}
use mathlib.Core.Bool.{Bool, true, false, ◌&&◌, cond}
use Prim.Native.Nat.{ℕ, ◌/◌, ◌<◌, ◌*◌, ◌%◌}
use lib.Dec.{T, eqb, eqb→eq}
use mathlib.Core.List.{List, [], ◌∷◌}
use native.Mathlib.Omega.{arith}
use lib.ListN.{length}
use Rattle.cast_spec.specs.Chunk.{Inputs, sw, dw, codes_listed, Check, checks_of, all_pass, tested, call_of, settings_of}
use Rattle.cast_spec.specs.Element as E
use Rattle.cast_spec.proofs.Checks.{map_whole_lem, tested_pass, whole_length}
use Rattle.cast_spec.proofs.Refusals.{RefusedBy}
use Rattle.cast_spec.proofs.Widths.{listed_width, width_bits}
use Rattle.codes.specs.Codes.{range_of, rounding_of}
use Rattle.kinds.proofs.Listed.{format_row, kind_back}
use Rattle.codes.proofs.Listed.{listed_kinds}
use Rattle.grid.proofs.Tests.{both, parts}
use Rattle.patterns.specs.Kind.{Kind, bits}
use Rattle.chunk_element.specs.Settings.{MapReady, Ready, settings_for}
use Rattle.chunk_checks.specs.declared.Checked.{Checked}
use Rattle.chunk_checks.specs.Checked.{settings_from, with_settings, checked_of}
use Rattle.answers.specs.Outcome.{Answer}
use Rattle.std.specs.Prelude.{Ok, Err}
use Rattle.answers.specs.declared.Refusal.{Refusal}

-- ---- which of the two it is
-- no refusal comes where every check is passed, and nowhere else
all_passed : (cs : List Check) → tested cs (Ok tt) ≡ Ok tt → all_pass cs ≡ true
all_passed [] e = refl
all_passed (c ∷ cs) e = go c.passes (all_passed cs) e
  where
    go : (b : Bool) → (tested cs (Ok tt) ≡ Ok tt → all_pass cs ≡ true) → cond b (tested cs (Ok tt)) (Err c.refusal) ≡ Ok tt → b && all_pass cs ≡ true
    go true f e = f e
    go false f e = let z : ◌≡◌ {A = ℕ} 0 1 = cc in absurd (omega arith)

module _ (I : Inputs) where
  refusal_back : (a : Answer) (r : Refusal) → with_settings I a ≡ Err r → a ≡ Err r
  refusal_back (Ok all) r e = let z : ◌≡◌ {A = ℕ} 0 1 = cc in absurd (omega arith)
  refusal_back (Err q) r e = cc

  pub refused_is : (r : Refusal) → checked_of I ≡ Err r → RefusedBy I (Err r)
  unfolding checked_of
  refused_is r e = (fails (all_pass (checks_of I)) refl, back)
    where
      back : tested (checks_of I) (Ok tt) ≡ Err r
      back = refusal_back (tested (checks_of I) (Ok tt)) r e

      fails : (b : Bool) → all_pass (checks_of I) ≡ b → all_pass (checks_of I) ≡ false
      fails true p = let f : ◌≡◌ {A = Answer} (Ok tt) (Err r) = sym (tested_pass (checks_of I) (Ok tt) (subst T (sym p) tt)) ∙ back in let z : ◌≡◌ {A = ℕ} 0 1 = cc in absurd (omega arith)
      fails false p = p

  settings_back : (a : Answer) (s : Checked) → with_settings I a ≡ Ok s → (a ≡ Ok tt) × (s ≡ record { settings = settings_from I; count = (call_of I).count })
  settings_back (Ok all) s e = (refl, cc)
  settings_back (Err q) s e = let z : ◌≡◌ {A = ℕ} 0 1 = cc in absurd (omega arith)

  pub passed_is : (s : Checked) → checked_of I ≡ Ok s → (all_pass (checks_of I) ≡ true) × (s.settings ≡ settings_from I) × (s.count ≡ (call_of I).count)
  unfolding checked_of
  passed_is s e =
      let f = settings_back (tested (checks_of I) (Ok tt)) s e in
      (all_passed (checks_of I) f.0, ap (λ (c : Checked). c.settings) f.1, ap (λ (c : Checked). c.count) f.1)

-- ---- a call that passes
module _ (I : Inputs) (pass : all_pass (checks_of I) ≡ true) where
  kinds_listed : (I.from < 11) × (I.to < 11)
  kinds_listed = listed_kinds I.from I.to I.rounding I.range (parts (codes_listed I) _ pass).0

  pub passes : T (call_of I).passed
  unfolding call_of
  passes = subst T (sym pass) tt

  -- the map's three tests
  map_tests : T (eqb (length I.keys % sw I) 0 && eqb (length I.targets % dw I) 0) × T (eqb (length I.keys / sw I) (length I.targets / dw I))
  map_tests = both (eqb (length I.keys % sw I) 0 && eqb (length I.targets % dw I) 0) (eqb (length I.keys / sw I) (length I.targets / dw I)) (map_whole_lem I passes)

  no_rest : T (eqb (length I.keys % sw I) 0) × T (eqb (length I.targets % dw I) 0)
  no_rest = both (eqb (length I.keys % sw I) 0) (eqb (length I.targets % dw I) 0) map_tests.0

  ready : Ready (settings_from I)
  ready = record {
    source_row = format_row I.from kinds_listed.0;
    target_row = format_row I.to kinds_listed.1;
    route = refl;
    source_width = listed_width I.from kinds_listed.0;
    target_width = listed_width I.to kinds_listed.1;
    source_bits = ap bits (kind_back I.from kinds_listed.0) ∙ sym (width_bits I.from);
  }

  pub map_ready : MapReady (settings_from I) I.keys I.targets
  map_ready = record {
    ready = ready;
    keys_whole = sym (whole_length (length I.keys) (sw I) (eqb→eq (length I.keys % sw I) 0 no_rest.0));
    targets_whole = sym (ap (λ (z : ℕ). z * dw I) (eqb→eq (length I.keys / sw I) (length I.targets / dw I) map_tests.1) ∙ whole_length (length I.targets) (dw I) (eqb→eq (length I.targets % dw I) 0 no_rest.1));
  }

  -- the settings are those of the definition
  pub settings_same : settings_for (settings_from I) I.keys I.targets ≡ settings_of I
  unfolding settings_of
  settings_same = ap₂ {C = E.Settings} (λ (j k : Kind). record { from = j; to = k; rule = rounding_of I.rounding; range = range_of I.range; entries = (settings_for (settings_from I) I.keys I.targets).entries }) (kind_back I.from kinds_listed.0) (kind_back I.to kinds_listed.1)

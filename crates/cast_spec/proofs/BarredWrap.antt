-- What the number 8 settles: it is given by the codes alone, and every call that it does not refuse answers as before it was given.
use mathlib.Core.Path.{◌≡◌, refl, ap, ◌∙◌}
use mathlib.Core.Logic.{◌↔◌, ◌⊎◌, ◌≢◌, inl, inr}
use mathlib.Core.Bool.{Bool, true, false, not, cond, true≢false}
use mathlib.Core.List.{List, [], ◌∷◌}
use Prim.Native.Nat.{ℕ, ◌/◌, ◌≤◌, ◌<◌}
use native.Mathlib.Omega.{arith}
use lib.Dec.{eqb}
use lib.ListN.{length}
use borrow.Author.Tests.{eqb-true, eq-eqb, leb-true}
use Rattle.grid.proofs.Neighbours.{cut}
use Rattle.patterns.specs.Kind.{is_float}
use Rattle.answers.specs.Answer.{number_of}
use Rattle.kinds.specs.Table.{kind_of}
use Rattle.codes.specs.Codes.{wrap_barred}
use Rattle.answers.specs.declared.Refusal.TheVariants as A
use Rattle.counts.specs.declared.Counts.{Counts}
use Rattle.kinds.proofs.Listed.{float_from_8}
use Rattle.codes.proofs.Listed.{listed_kinds}
use Rattle.grid.proofs.Tests.{parts}
use Rattle.cast_spec.specs.Chunk.{Inputs, sw, dw, codes_listed, wrap_permitted, map_whole, bytes_whole, counts_meet, Check, all_pass, tested, call_of, outcome_at, answer_from, answer_of, bytes_from, destination_of, converted_of, counts_below, counts_of}
use Rattle.cast_spec.proofs.Demand1.{demand1}
use Rattle.answers.specs.Outcome.{Answer}

-- ---- "8 for wrap with target kind f32 or f64", and "From now on 8 bars wrap to f16 too", whatever the lengths, the map and the elements are
not_not : (b : Bool) → not b ≡ false → b ≡ true
not_not true e = refl
not_not false e = absurd (true≢false e)

module _ (I : Inputs) where
  -- f32, f64 or f16
  abbrev FloatCode : Type 0
  FloatCode = (I.to ≡ 8) ⊎ ((I.to ≡ 9) ⊎ (I.to ≡ 10))

  float_code : I.to < 11 → is_float (kind_of I.to) ≡ true → FloatCode
  float_code few e =
      let l : 8 ≤ I.to = leb-true 8 I.to (float_from_8 I.to ∙ e) in
      cut I.to 9 (λ (m : I.to < 9). inl (omega arith)) (λ (m : 9 ≤ I.to). cut I.to 10 (λ (n : I.to < 10). inr (inl (omega arith))) (λ (n : 10 ≤ I.to). inr (inr (omega arith))))

  is_float_code : FloatCode → is_float (kind_of I.to) ≡ true
  is_float_code (inl e) = ap (λ (c : ℕ). is_float (kind_of c)) e
  is_float_code (inr (inl e)) = ap (λ (c : ℕ). is_float (kind_of c)) e
  is_float_code (inr (inr e)) = ap (λ (c : ℕ). is_float (kind_of c)) e

  pub eight_exactly : (number_of (answer_of I) ≡ 8) ↔ ((codes_listed I ≡ true) × (I.range ≡ 2) × FloatCode)
  eight_exactly = (
    λ n.
        let c = (demand1 I).barred_wrap.0 n in
        let p = parts (eqb I.range 2) (is_float (kind_of I.to)) (not_not (wrap_barred I.to I.range) c.1) in
        (c.0, eqb-true I.range 2 p.0, float_code (listed_kinds I.from I.to I.rounding I.range c.0).1 p.1),
    λ c. (demand1 I).barred_wrap.1 (c.0, ap not (barred (eq-eqb I.range 2 c.1) (is_float_code c.2))),
  )
    where
      barred : eqb I.range 2 ≡ true → is_float (kind_of I.to) ≡ true → wrap_barred I.to I.range ≡ true
      barred a b = simp (a, b)

-- ---- the call as it was with four checks
abbrev checks_before : Inputs → List Check
checks_before I =
    record { passes = codes_listed I; refusal = A.UnknownCode }
    ∷ record { passes = map_whole I; refusal = A.BrokenMap }
    ∷ record { passes = bytes_whole I; refusal = A.BrokenElement }
    ∷ record { passes = counts_meet I; refusal = A.LengthMismatch (length I.source / sw I) (length I.destination / dw I) }
    ∷ []

abbrev answer_before : Inputs → Answer
answer_before I = tested (checks_before I) (answer_from (outcome_at (call_of I)) 0 (call_of I).count)

abbrev destination_before : Inputs → List ℕ
destination_before I = cond (all_pass (checks_before I)) (bytes_from (outcome_at (call_of I)) (dw I) 0 (call_of I).count I.destination) I.destination

abbrev counts_before : Inputs → Counts
counts_before I = counts_below (outcome_at (call_of I)) (converted_of (call_of I).count (answer_before I))

pub record AsBefore (I : Inputs) : Type 0 where
  pub answer : answer_of I ≡ answer_before I
  pub counts : counts_of I ≡ counts_before I
  pub bytes : destination_of I ≡ destination_before I

pub as_before : (I : Inputs) → number_of (answer_of I) ≢ 8 → AsBefore I
unfolding answer_of counts_of destination_of call_of
as_before I other = go (codes_listed I) refl (wrap_permitted I) refl
  where
    go : (a : Bool) → codes_listed I ≡ a → (w : Bool) → wrap_permitted I ≡ w → AsBefore I
    go false a w b = record { answer = simp a; counts = simp a; bytes = simp a }
    go true a true b = record { answer = simp b; counts = simp b; bytes = simp b }
    go true a false b = absurd (other ((demand1 I).barred_wrap.1 (a, b)))

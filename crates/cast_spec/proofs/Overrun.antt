-- Refusal 7 comes of range code 0 alone.
use mathlib.Core.Path.{◌≡◌, refl, sym, ◌∙◌}
use mathlib.Core.Logic.{◌⊎◌, inl, inr}
use mathlib.Core.Bool.{Bool, true, false, cond}
use Prim.Native.Nat.{ℕ, zero, suc}
use native.Mathlib.Omega.{arith}
use lib.Dec.{T}
use lib.IntN.{ℤ}
use Rattle.grid.specs.Round.{pick}
use Rattle.patterns.specs.Kind.{Kind, integer, binary, grid_of}
use Rattle.patterns.specs.Value.{Value, nan, inf, num, value_of}
use Rattle.codes.specs.Codes.{range_of}
use Rattle.answers.specs.Answer.{outcome_number}
use Rattle.codes.specs.declared.OutOfRangeMode.{OutOfRangeMode}
use Rattle.codes.specs.declared.OutOfRangeMode.TheVariants.{None, Clamp, Wrap}
use Rattle.cast_spec.specs.Element.{Settings, lookup_of, found_or, in_range, beyond, converted, outcome_of}
use Rattle.cast_spec.specs.Chunk.{Inputs, settings_of, call_of, outcome_at}
use Rattle.cast_spec.proofs.Each.{WrapsFloat}
use Rattle.cast_spec.proofs.Demand3.{no_float_wrapped}
use Rattle.answers.specs.Outcome.{Outcome}
use Rattle.std.specs.Prelude.{None, Option, Some}

-- none, or wrap to a float
abbrev NoneOrBarred : Kind → OutOfRangeMode → Type 0
NoneOrBarred k m = (m ≡ None) ⊎ WrapsFloat k m

beyond_7 : (k : Kind) (m : OutOfRangeMode) (v : ℕ) (neg : Bool) (y : ℤ) → outcome_number (beyond k m v neg y) ≡ 7 → NoneOrBarred k m
unfolding beyond
beyond_7 (integer s n) None v neg y e = inl refl
beyond_7 (integer s n) Clamp v neg y e = absurd (omega arith)
beyond_7 (integer s n) Wrap v neg y e = absurd (omega arith)
beyond_7 (binary p w s) None v neg y e = inl refl
beyond_7 (binary p w s) Clamp v neg y e = absurd (omega arith)
beyond_7 (binary p w s) Wrap v neg y e = inr tt

past_stored : (c : Bool) (a b : Outcome) → outcome_number a ≡ 0 → outcome_number (cond c a b) ≡ 7 → outcome_number b ≡ 7
past_stored true a b z e = absurd (omega arith)
past_stored false a b z e = e

converted_7 : (S : Settings) (b : ℕ) (k : Kind) (v : Value) → outcome_number (converted S b k v) ≡ 7 → NoneOrBarred k S.range
converted_7 S b k (num x) e = beyond_7 k S.range _ _ _ (past_stored (in_range k (pick (grid_of k) S.rule x)) _ _ refl e)
converted_7 S b (integer s n) (inf neg) e = absurd (omega arith)
converted_7 S b (integer s n) nan e = absurd (omega arith)
converted_7 S b (binary p w s) (inf neg) e = absurd (omega arith)
converted_7 S b (binary p w s) nan e = absurd (omega arith)

outcome_7 : (S : Settings) (b : ℕ) → outcome_number (outcome_of S b) ≡ 7 → NoneOrBarred S.to S.range
unfolding outcome_of
outcome_7 S b e = go (lookup_of S.from (value_of S.from b) S.entries) e
  where
    go : (l : Option ℕ) → outcome_number (found_or l (converted S b S.to (value_of S.from b))) ≡ 7 → NoneOrBarred S.to S.range
    go (Some t) e = absurd (omega arith)
    go None e = converted_7 S b S.to (value_of S.from b) e

none_is_0 : (g : ℕ) → range_of g ≡ None → g ≡ 0
none_is_0 zero e = refl
none_is_0 (suc zero) e = let z : ◌≡◌ {A = ℕ} 0 1 = cc in absurd (omega arith)
none_is_0 (suc (suc g)) e = let z : ◌≡◌ {A = ℕ} 0 1 = cc in absurd (omega arith)

range_is : (I : Inputs) → (call_of I).settings.range ≡ range_of I.range
unfolding call_of settings_of
range_is I = refl

pub overrun_range : (I : Inputs) → T (call_of I).passed → (i : ℕ) → outcome_number (outcome_at (call_of I) i) ≡ 7 → I.range ≡ 0
unfolding outcome_at
overrun_range I t i e = go (outcome_7 (call_of I).settings ((call_of I).element i) e)
  where
    go : NoneOrBarred (call_of I).settings.to (call_of I).settings.range → I.range ≡ 0
    go (inl n) = none_is_0 I.range (sym (range_is I) ∙ n)
    go (inr w) = absurd (no_float_wrapped I t w)

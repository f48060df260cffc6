-- The value of a refusal that concerns a NaN is the settled one, `refused_nan`, in every typed call.
use mathlib.Core.Bool.{Bool, true, false, cond}
use mathlib.Core.Path.{◌≡◌, refl, sym, ap, subst, ◌∙◌}
use mathlib.Core.Logic.{◌⊎◌, inl, inr}
use mathlib.Core.List.{List, map}
use Prim.Native.Nat.{ℕ, ◌<◌}
use native.Mathlib.Omega.{arith}
use lib.Dec.{lit<, lit≤}
use lib.IntN.{ℤ}
use lib.Ieee as F
use lib.Ieee.{Float, Format, binary32, binary64, to_bits}
use lib.ListN.{length}
use Rattle.grid.specs.Round.{pick}
use Rattle.grid.specs.Ternary.{ternary_of}
use Rattle.patterns.specs.Kind.{Kind, integer, binary, f64, grid_of}
use Rattle.patterns.specs.Value.{Value, nan, inf, num, negative, value_of}
use Rattle.patterns.specs.Pattern.{pattern_of, infinity, nan_pattern, as_f64, as_f64_from}
use Rattle.patterns.proofs.Floats.{inf_back}
use Rattle.patterns.proofs.Ieee.{kind_for}
use Rattle.kinds.specs.Table.{kind_of}
use Rattle.counts.specs.Counts.{by_pick}
use Rattle.counts.specs.declared.Fared.{Fared}
use Rattle.codes.specs.declared.OutOfRangeMode.{OutOfRangeMode}
use Rattle.codes.specs.declared.OutOfRangeMode.TheVariants.{None, Clamp, Wrap}
use Rattle.answers.specs.declared.Refusal.TheVariants as A
use Rattle.answers.specs.declared.Reply.{Reply}
use Rattle.cast_spec.specs.Element.{Settings, lookup_of, found_or, in_range, beyond, converted, outcome_of}
use Rattle.answers.specs.Answer.{Values, element_values, outcome_number, outcome_values}
use Rattle.cast_spec.specs.Chunk.{Inputs, call_of, outcome_at}
use Rattle.cast_spec.specs.Demand1.{Demand1}
use Rattle.cast_spec.specs.Contract.{Contract}
use Rattle.typed_values.specs.Bits.{float_bits, i64_bits}
use Rattle.patterns.proofs.Integers.{no_integer_nan}
use Rattle.typed_values.proofs.Nans.{quiet}
use Rattle.typed.specs.Typed.{typed_inputs, TypedContract, refused_nan}
use Rattle.typed.proofs.Places.{some_element}
use Rattle.typed.proofs.Turns.{Elements, settings, outcome_at_lem, count_is}
use Rattle.typed.proofs.Pairs as pairs
use Rattle.answers.specs.Outcome.{Answer, Outcome, stored_as}
use Rattle.answers.specs.declared.ElementRefusal.TheVariants.{FloatOutOfRange, NanOrInf, OutOfRange}
use Rattle.std.specs.Prelude.{Err, None, Ok, Option, Some}

-- ---- refusal 5 is of a NaN or of an infinity, and has its pattern as f64
abbrev OfNanOrInf : Kind → ℕ → ℕ → Type 0
OfNanOrInf k b v = ((value_of k b ≡ nan) × (nan_pattern k 53 11 b ≡ v)) ⊎ ((neg : Bool) × (infinity 53 11 neg ≡ v))

stored_apart : {b v : ℕ} {f : Fared} → stored_as b f ≡ Err (NanOrInf v) → ⊥
stored_apart e = let z : ◌≡◌ {A = ℕ} 0 1 = cc in omega arith

beyond_apart : (k : Kind) (r : OutOfRangeMode) (u : ℕ) (neg : Bool) (y : ℤ) (v : ℕ) → beyond k r u neg y ≡ Err (NanOrInf v) → ⊥
unfolding beyond
beyond_apart (integer s n) None u neg y v e = let z : ◌≡◌ {A = ℕ} 0 1 = cc in omega arith
beyond_apart (integer s n) Clamp u neg y v e = stored_apart e
beyond_apart (integer s n) Wrap u neg y v e = stored_apart e
beyond_apart (binary p w s) None u neg y v e = let z : ◌≡◌ {A = ℕ} 0 1 = cc in omega arith
beyond_apart (binary p w s) Clamp u neg y v e = stored_apart e
beyond_apart (binary p w s) Wrap u neg y v e = let z : ◌≡◌ {A = ℕ} 0 1 = cc in omega arith

-- ---- one element
module _ (S : Settings) (b v : ℕ) where
  of_value : (k : Kind) (u : Value) → value_of S.from b ≡ u → converted S b k u ≡ Err (NanOrInf v) → OfNanOrInf S.from b v
  of_value k (num x) h e = absurd (go (in_range k (pick (grid_of k) S.rule x)) (pattern_of k (negative S.from b) (pick (grid_of k) S.rule x)) (by_pick (ternary_of x (pick (grid_of k) S.rule x))) e)
    where
      go : (t : Bool) (a : ℕ) (f : Fared) → cond t (stored_as a f) (beyond k S.range (as_f64 S.from b) (negative S.from b) (pick (grid_of k) S.rule x)) ≡ Err (NanOrInf v) → ⊥
      go true a f e = stored_apart e
      go false a f e = beyond_apart k S.range (as_f64 S.from b) (negative S.from b) (pick (grid_of k) S.rule x) v e
  of_value (integer s n) (inf neg) h e = let f : as_f64 S.from b ≡ v = cc in inr (neg, sym (ap (as_f64_from S.from b) h) ∙ f)
  of_value (integer s n) nan h e = let f : as_f64 S.from b ≡ v = cc in inl (h, sym (ap (as_f64_from S.from b) h) ∙ f)
  of_value (binary p w s) (inf neg) h e = absurd (stored_apart e)
  of_value (binary p w s) nan h e = absurd (stored_apart e)

  unmatched : (l : Option ℕ) (o : Outcome) → found_or l o ≡ Err (NanOrInf v) → o ≡ Err (NanOrInf v)
  unmatched (Some t) o h = absurd (stored_apart h)
  unmatched None o h = h

  refused : outcome_of S b ≡ Err (NanOrInf v) → OfNanOrInf S.from b v
  unfolding outcome_of
  refused h = of_value S.to (value_of S.from b) refl (unmatched (lookup_of S.from (value_of S.from b) S.entries) (converted S b S.to (value_of S.from b)) h)

-- ---- an outcome of the number 5 has the value that the answer has
of_number_5 : (i v : ℕ) (x : Outcome) → outcome_number x ≡ 5 → element_values i v 0 0 ≡ outcome_values i x → x ≡ Err (NanOrInf v)
of_number_5 i v (Ok s) n e = absurd (omega arith)
of_number_5 i v (Err (NanOrInf u)) n e = ap (λ (z : ℕ). Err (NanOrInf z)) (sym (ap (λ (a : Values). a.value) e))
of_number_5 i v (Err (OutOfRange u lo hi)) n e = absurd (omega arith)
of_number_5 i v (Err (FloatOutOfRange u lo hi)) n e = absurd (omega arith)

told : (I : Inputs) (r : Reply) (d : List ℕ) (i v : ℕ) → Contract I r d → r.answer ≡ Err (A.NanOrInf i v) → (i < (call_of I).count) × (outcome_at (call_of I) i ≡ Err (NanOrInf v))
told I r d i v c e =
    let D = subst (λ (a : Answer). Demand1 I a d) e c.demand1 in
    let f = (D.first_bad 5 i tt).0 (refl, refl) in
    (f.0.within, of_number_5 i v (outcome_at (call_of I) i) f.1 (D.of_element tt))

-- ---- the quiet NaN of either format, as f64
quiet_value : (f : Format) → nan_pattern (kind_for f) 53 11 (to_bits f F.nan) ≡ refused_nan
unfolding nan_pattern to_bits
quiet_value binary32 = refl
quiet_value binary64 = refl

-- ---- a typed call, by its elements
abbrev Settled : {X Y Z : Type 0} → Elements X Y Z → X → Type 0
Settled P x = value_of (kind_of P.from) (P.source_bits x) ≡ nan → nan_pattern (kind_of P.from) 53 11 (P.source_bits x) ≡ refused_nan

abbrev pub RefusalsSettled : {X Y Z : Type 0} → Elements X Y Z → Type 0
RefusalsSettled {X} {Y} {Z} P = (xs : List X) (ys : List Z) (rounding range : ℕ) (qs ds : List ℕ) (r : Reply) → TypedContract P.from P.to (map P.source_bits xs) qs (map P.entry_bits ys) rounding range r ds
    → (i v : ℕ) → r.answer ≡ Err (A.NanOrInf i v) → value_of f64 v ≡ nan → v ≡ refused_nan

refused_nan_lem : {X Y Z : Type 0} (P : Elements X Y Z) → ((x : X) → Settled P x) → RefusalsSettled P
refused_nan_lem {X} P settled xs ys rounding range qs ds r c i v e h =
    let ps = map P.source_bits xs in
    let S = settings P.from P.to (map P.entry_bits ys) rounding range in
    let I = typed_inputs P.from P.to ps qs (map P.entry_bits ys) rounding range in
    let t = told I r _ i v c e in
    let l : i < length ps = subst (λ (n : ℕ). i < n) (count_is P xs ys rounding range qs) t.0 in
    let x = some_element P.source_bits xs i l in
    go x.0 (refused S (P.source_bits x.0) v (subst (λ (b : ℕ). outcome_of S b ≡ Err (NanOrInf v)) (sym x.1) (sym (outcome_at_lem P xs ys rounding range qs i l) ∙ t.1)))
  where
    go : (x : X) → OfNanOrInf (kind_of P.from) (P.source_bits x) v → v ≡ refused_nan
    go x (inl a) = sym a.1 ∙ settled x a.0
    go x (inr a) = let u : value_of f64 v ≡ inf a.0 = ap (value_of f64) (sym a.1) ∙ inf_back 53 11 0 (lit≤ tt) (lit< tt) a.0 in let z : ◌≡◌ {A = ℕ} 0 1 = cc in absurd (omega arith)

float_settled : (f : Format) (x : Float) → value_of (kind_for f) (float_bits f x) ≡ nan → nan_pattern (kind_for f) 53 11 (float_bits f x) ≡ refused_nan
float_settled f x h = ap (nan_pattern (kind_for f) 53 11) (quiet f x h) ∙ quiet_value f

-- ---- the five
pub f64_to_u8 : RefusalsSettled pairs.f64_to_u8
f64_to_u8 = refused_nan_lem pairs.f64_to_u8 (float_settled binary64)

pub f64_to_i32 : RefusalsSettled pairs.f64_to_i32
f64_to_i32 = refused_nan_lem pairs.f64_to_i32 (float_settled binary64)

pub f32_to_u8 : RefusalsSettled pairs.f32_to_u8
f32_to_u8 = refused_nan_lem pairs.f32_to_u8 (float_settled binary32)

pub f64_to_f32 : RefusalsSettled pairs.f64_to_f32
f64_to_f32 = refused_nan_lem pairs.f64_to_f32 (float_settled binary64)

pub i64_to_f32 : RefusalsSettled pairs.i64_to_f32
i64_to_f32 = refused_nan_lem pairs.i64_to_f32 (λ x h. absurd (no_integer_nan true 64 (i64_bits x) h))

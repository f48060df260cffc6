-- Each count is how many converted elements are of its class, and the five make up all that are converted.
use mathlib.Core.Path.{◌≡◌, refl, sym, ap, subst, ◌∙◌}
use mathlib.Core.Logic.{inl, inr}
use mathlib.Core.Bool.{Bool, true, false, cond}
use Prim.Native.Nat.{ℕ, zero, suc, ◌+◌, ◌≤◌, ◌<◌}
use native.Mathlib.Nat.{lt_of_lt_of_le, zero-add}
use native.Mathlib.Omega.{arith}
use lib.Dec.{T, eqb}
use borrow.Author.Tests.{eqb-true, eqb-false}
use Rattle.patterns.specs.Kind.{WellFormed}
use Rattle.answers.specs.Answer.{number_of, names_position, leaves_all, position_of}
use Rattle.counts.specs.Counts.{place_of, count_of}
use Rattle.answers.specs.declared.Refusal.TheVariants as A
use Rattle.counts.specs.declared.Fared.{Fared}
use Rattle.counts.specs.declared.Fared.TheVariants.{Mapped, Exact, Rounded, Clamped, Wrapped}
use Rattle.cast_spec.specs.Chunk.{Inputs, call_of, outcome_at, answer_next, answer_from, answer_of, counts_of, converted_of, fared_as, count_below}
use Rattle.cast_spec.specs.Counted.{Fares, HowMany, Counted}
use Rattle.cast_spec.proofs.Checks.{answer_is}
use Rattle.cast_spec.proofs.Classes.{fares, named}
use Rattle.cast_spec.proofs.Demand1.{demand1, refused_early}
use Rattle.cast_spec.proofs.Demand3.{good, to_is}
use Rattle.answers.specs.Outcome.{Answer, Outcome, stored_as}
use Rattle.answers.specs.declared.ElementRefusal.TheVariants.{FloatOutOfRange, NanOrInf, OutOfRange}
use Rattle.std.specs.Prelude.{Err, Ok}

-- ---- the order of the five tells them apart
fared_at : ℕ → Fared
fared_at zero = Mapped
fared_at (suc zero) = Exact
fared_at (suc (suc zero)) = Rounded
fared_at (suc (suc (suc zero))) = Clamped
fared_at (suc (suc (suc (suc n)))) = Wrapped

at_place : (f : Fared) → fared_at (place_of f) ≡ f
unfolding fared_at
at_place Mapped = refl
at_place Exact = refl
at_place Rounded = refl
at_place Clamped = refl
at_place Wrapped = refl

same_place : (f g : Fared) → place_of f ≡ place_of g → f ≡ g
same_place f g e = sym (at_place f) ∙ ap fared_at e ∙ at_place g

-- ---- one position more, which is not so
pub miss : (P : ℕ → Type 0) (n k : ℕ) → (P n → ⊥) → HowMany P n k → HowMany P (suc n) k
miss P n zero a r = (a, r)
miss P n (suc k) a r = inr (a, r)

-- ---- n stored elements
module _ (o : ℕ → Outcome) where
  abbrev StoredAt : ℕ → Type 0
  StoredAt i = (b : ℕ) × (f : Fared) × (o i ≡ stored_as b f)

  -- how many are of a class
  how_many : (P : Fared → ℕ → Type 0) → ((i : ℕ) (f : Fared) (b : ℕ) → o i ≡ stored_as b f → P f i × ((g : Fared) → P g i → f ≡ g)) → (f : Fared) (n : ℕ) → ((i : ℕ) → i < n → StoredAt i) → HowMany (P f) n (count_below o f n)
  how_many P h f zero s = refl
  how_many P h f (suc n) s =
      let x = s n (omega arith) in
      subst (λ (u : Outcome). HowMany (P f) (suc n) (cond (fared_as f u) (suc (count_below o f n)) (count_below o f n))) (sym x.2)
      (go (eqb (place_of f) (place_of x.1)) refl (h n x.1 x.0 x.2) (how_many P h f n (λ i l. s i (omega arith))))
    where
      go : (t : Bool) → {g : Fared} → eqb (place_of f) (place_of g) ≡ t → P g n × ((g' : Fared) → P g' n → g ≡ g') → HowMany (P f) n (count_below o f n) → HowMany (P f) (suc n) (cond t (suc (count_below o f n)) (count_below o f n))
      go true {g} e q r = inl (subst (λ (z : Fared). P z n) (sym (same_place f g (eqb-true _ _ e))) q.0, r)
      go false {g} e q r = miss (P f) n (count_below o f n) (λ p. eqb-false _ _ e (ap place_of (sym (q.1 f p)))) r

  -- they are n
  sum_is : (n : ℕ) → ((i : ℕ) → i < n → StoredAt i) → count_below o Mapped n + count_below o Exact n + count_below o Rounded n + count_below o Clamped n + count_below o Wrapped n ≡ n
  sum_is zero s = refl
  sum_is (suc n) s =
      let x = s n (omega arith) in
      subst (λ (u : Outcome). next Mapped u + next Exact u + next Rounded u + next Clamped u + next Wrapped u ≡ suc n) (sym x.2) (go x.0 x.1 (sum_is n (λ i l. s i (omega arith))))
    where
      next : Fared → Outcome → ℕ
      next f u = cond (fared_as f u) (suc (count_below o f n)) (count_below o f n)

      go : (b : ℕ) (f : Fared) → count_below o Mapped n + count_below o Exact n + count_below o Rounded n + count_below o Clamped n + count_below o Wrapped n ≡ n → next Mapped (stored_as b f) + next Exact (stored_as b f) + next Rounded (stored_as b f) + next Clamped (stored_as b f) + next Wrapped (stored_as b f) ≡ suc n
      go b Mapped e = omega arith
      go b Exact e = omega arith
      go b Rounded e = omega arith
      go b Clamped e = omega arith
      go b Wrapped e = omega arith

-- ---- what the definitions give
module _ (I : Inputs) where
  abbrev o : ℕ → Outcome
  o = outcome_at (call_of I)

  abbrev n : ℕ
  n = (call_of I).count

  before : (r : Answer) → answer_of I ≡ r → T (names_position (number_of r)) → (i : ℕ) → i < position_of r → StoredAt o i
  before r e h i l = let d = (demand1 I).before (subst (λ (z : Answer). T (names_position (number_of z))) (sym e) h) i (subst (λ (z : Answer). i < position_of z) (sym e) l) in (d.pattern, d.fared, d.outcome)

  stored : (r : Answer) → answer_of I ≡ r → (i : ℕ) → i < converted_of n r → StoredAt o i
  stored (Ok all) e i l = let d = (demand1 I).all_converted (ap number_of e) i l in (d.pattern, d.fared, d.outcome)
  stored (Err A.UnknownCode) e i l = absurd (omega arith)
  stored (Err A.BrokenMap) e i l = absurd (omega arith)
  stored (Err A.BrokenElement) e i l = absurd (omega arith)
  stored (Err (A.LengthMismatch a b)) e i l = absurd (omega arith)
  stored (Err (A.NanOrInf j v)) e i l = before (Err (A.NanOrInf j v)) e tt i l
  stored (Err (A.OutOfRange j v lo hi)) e i l = before (Err (A.OutOfRange j v lo hi)) e tt i l
  stored (Err (A.FloatOutOfRange j v lo hi)) e i l = before (Err (A.FloatOutOfRange j v lo hi)) e tt i l
  stored (Err A.BarredWrap) e i l = absurd (omega arith)

  class_told : (i : ℕ) (f : Fared) (b : ℕ) → o i ≡ stored_as b f → Fares (call_of I) f i × ((g : Fared) → Fares (call_of I) g i → f ≡ g)
  class_told i f b e = let ok = subst WellFormed (sym (to_is I)) (good I.to) in (fares (call_of I) i ok f b e, λ g p. named (call_of I) i ok g f b p e)

  -- "whose class .. is that one": each converted element has one class
  pub one_class : (i : ℕ) → i < converted_of n (answer_of I) → (f : Fared) × Fares (call_of I) f i × ((g : Fared) → Fares (call_of I) g i → f ≡ g)
  one_class i l = let s = stored (answer_of I) refl i l in let t = class_told i s.1 s.0 s.2 in (s.1, t.0, t.1)

  count_is : (f : Fared) → count_of f (counts_of I) ≡ count_below o f (converted_of n (answer_of I))
  unfolding counts_of
  count_is Mapped = refl
  count_is Exact = refl
  count_is Rounded = refl
  count_is Clamped = refl
  count_is Wrapped = refl

  pub counted : Counted (call_of I) (answer_of I) (counts_of I)
  unfolding counts_of
  counted = record {
    each = λ f. subst (HowMany (Fares (call_of I) f) (converted_of n (answer_of I))) (sym (count_is f)) (how_many o (Fares (call_of I)) class_told f (converted_of n (answer_of I)) (stored (answer_of I) refl));
    sum = sum_is o (converted_of n (answer_of I)) (stored (answer_of I) refl);
  }

-- ---- what is converted passed the checks and stands before the end
converted_le : (o : ℕ → Outcome) (n a : ℕ) → converted_of (a + n) (answer_from o a n) ≤ a + n
converted_le o zero a = omega arith
converted_le o (suc n) a = go (o a) (subst (λ (z : ℕ). converted_of z (answer_from o (suc a) n) ≤ z) (move a n) (converted_le o n (suc a)))
  where
    move : (a n : ℕ) → suc a + n ≡ a + suc n
    move a n = omega arith

    go : (x : Outcome) → converted_of (a + suc n) (answer_from o (suc a) n) ≤ a + suc n → converted_of (a + suc n) (answer_next x a (answer_from o (suc a) n)) ≤ a + suc n
    go (Ok s) h = h
    go (Err (NanOrInf v)) h = omega arith
    go (Err (OutOfRange v lo hi)) h = omega arith
    go (Err (FloatOutOfRange v lo hi)) h = omega arith

early_none : (n : ℕ) (r : Answer) → T (leaves_all (number_of r)) → converted_of n r ≡ 0
early_none n (Ok all) h = absurd h
early_none n (Err A.UnknownCode) h = refl
early_none n (Err A.BrokenMap) h = refl
early_none n (Err A.BrokenElement) h = refl
early_none n (Err (A.LengthMismatch a b)) h = refl
early_none n (Err (A.NanOrInf i v)) h = absurd h
early_none n (Err (A.OutOfRange i v lo hi)) h = absurd h
early_none n (Err (A.FloatOutOfRange i v lo hi)) h = absurd h
early_none n (Err A.BarredWrap) h = refl

pub converted_within : (I : Inputs) (j : ℕ) → j < converted_of (call_of I).count (answer_of I) → T (call_of I).passed × (j < (call_of I).count)
converted_within I j l = go (call_of I).passed refl
  where
    go : (b : Bool) → (call_of I).passed ≡ b → T b × (j < (call_of I).count)
    go true e =
        let m = subst (λ (r : Answer). j < converted_of (call_of I).count r) (answer_is I (subst T (sym e) tt)) l in
        (tt, lt_of_lt_of_le m (subst (λ (z : ℕ). converted_of z (answer_from (outcome_at (call_of I)) 0 (call_of I).count) ≤ z) (zero-add (call_of I).count) (converted_le (outcome_at (call_of I)) (call_of I).count 0)))
    go false e = absurd (omega (arith, early_none (call_of I).count (answer_of I) (refused_early I e)))

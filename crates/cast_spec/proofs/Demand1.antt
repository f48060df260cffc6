-- Demand 1 holds of the answer and the destination that the definitions give; and it leaves one number and one set of values for any inputs.
use mathlib.Core.Path.{◌≡◌, refl, ap, ◌∙◌, sym, subst}
use mathlib.Core.Logic.{inl, inr, ◌↔◌, ◌≢◌}
use mathlib.Core.Bool.{Bool, true, false, cond, true≢false}
use mathlib.Core.List.{List, ◌++◌}
use Prim.Native.Nat.{suc, zero, ℕ, ◌+◌, ◌*◌, ◌/◌, ◌%◌, ◌^◌, ◌≤◌, ◌<◌}
use native.Mathlib.Nat.{add-zero, zero-add}
use native.Mathlib.Omega.{arith}
use lib.Dec.{lit≤, T}
use lib.ListN.{length, drop}
use lib.Seq.{drop-append-add, drop-drop}
use Rattle.bytes_le.proofs.Places.{first_place, next_place}
use Rattle.counts.specs.declared.Fared.{Fared}
use Rattle.cast_spec.specs.Chunk.{Refuses, Reached, sw, dw, answer_from, answer_next, bytes_from, bytes_next, Inputs, answer_of, checks_of, codes_listed, wrap_permitted, map_whole, bytes_whole, counts_meet, call_of, destination_of, outcome_at}
use Rattle.cast_spec.proofs.Places.{later}
use Rattle.bytes_le.proofs.Sums.{length-to_le}
use Rattle.patterns.specs.Kind.{Kind}
use Rattle.patterns.specs.Value.{Value}
use Rattle.kinds.specs.Table.{kind_of}
use Rattle.answers.specs.Answer.{number_of, names_position, leaves_all, no_values, both_counts, values_of, position_of, outcome_number, outcome_values}
use Rattle.bytes_le.specs.Bytes.{pattern_at, to_le}
use Rattle.cast_spec.specs.Demand1.{ConvertedTo, Demand1}
use Rattle.cast_spec.proofs.Checks.{answer_is, destination_is, long_written, tested_by, ToElements, Causes, causes}
use Rattle.cast_spec.proofs.Overrun.{overrun_range}
use Rattle.answers.proofs.Numbers.{never_both}
use Rattle.cast_spec.proofs.Each.{Served}
use Rattle.cast_spec.proofs.Demand3.{at_place}
use Rattle.answers.specs.declared.Refusal.TheVariants as A
use Rattle.answers.specs.Outcome.{Answer, Outcome, stored_as}
use Rattle.answers.specs.declared.ElementRefusal.TheVariants.{FloatOutOfRange, NanOrInf, OutOfRange}
use Rattle.std.specs.Prelude.{Err, Ok}

numbers : (r : Answer) → number_of r ≤ 8
numbers (Ok all) = lit≤ tt
numbers (Err A.UnknownCode) = lit≤ tt
numbers (Err A.BrokenMap) = lit≤ tt
numbers (Err A.BrokenElement) = lit≤ tt
numbers (Err (A.LengthMismatch s d)) = lit≤ tt
numbers (Err (A.NanOrInf i v)) = lit≤ tt
numbers (Err (A.OutOfRange i v lo hi)) = lit≤ tt
numbers (Err (A.FloatOutOfRange i v lo hi)) = lit≤ tt
numbers (Err A.BarredWrap) = lit≤ tt

-- ---- n outcomes from the position a on
module _ (o : ℕ → Outcome) (w : ℕ) where
  -- the answer r names a position before e, whose outcome has its number and its values
  abbrev Told : Answer → ℕ → Type 0
  Told r e = (position_of r < e) × (number_of r ≡ outcome_number (o (position_of r))) × (values_of r ≡ outcome_values (position_of r) (o (position_of r)))

  -- a refusal that is told lies among them, and is its element's own
  told : (a n : ℕ) → T (names_position (number_of (answer_from o a n))) → Told (answer_from o a n) (a + n)
  told a zero h = absurd h
  told a (suc n) h = go (o a) refl (told (suc a) n) h
    where
      R : Answer
      R = answer_from o (suc a) n

      here : (x : Outcome) → o a ≡ x → T (names_position (outcome_number x)) → Told (answer_next x a R) (a + suc n)
      here (Ok s) e l = absurd l
      here (Err (NanOrInf v)) e l = (omega arith, ap outcome_number (sym e), ap (outcome_values a) (sym e))
      here (Err (OutOfRange v lo hi)) e l = (omega arith, ap outcome_number (sym e), ap (outcome_values a) (sym e))
      here (Err (FloatOutOfRange v lo hi)) e l = (omega arith, ap outcome_number (sym e), ap (outcome_values a) (sym e))

      go : (x : Outcome) → o a ≡ x → (T (names_position (number_of R)) → Told R (suc a + n)) → T (names_position (number_of (answer_next x a R))) → Told (answer_next x a R) (a + suc n)
      go (Ok s) e f h = let g = f h in (omega (arith, g.0), g.1, g.2)
      go (Err (NanOrInf v)) e f h = here (Err (NanOrInf v)) e tt
      go (Err (OutOfRange v lo hi)) e f h = here (Err (OutOfRange v lo hi)) e tt
      go (Err (FloatOutOfRange v lo hi)) e f h = here (Err (FloatOutOfRange v lo hi)) e tt

  -- an element before any refusal is stored, and its place holds it
  stored : (a n i : ℕ) (d : List ℕ) → i < n → (T (names_position (number_of (answer_from o a n))) → a + i < position_of (answer_from o a n)) → (b : ℕ) × (f : Fared) × (o (a + i) ≡ stored_as b f) × (pattern_at w (bytes_from o w a n d) i ≡ b % 256 ^ w)
  stored a zero i d l h = absurd (omega arith)
  stored a (suc n) zero d l h = go (o a) refl h
    where
      go : (x : Outcome) → o a ≡ x → (T (names_position (number_of (answer_next x a (answer_from o (suc a) n)))) → a + 0 < position_of (answer_next x a (answer_from o (suc a) n))) → (b : ℕ) × (f : Fared) × (o (a + 0) ≡ stored_as b f) × (pattern_at w (bytes_next x w d (bytes_from o w (suc a) n (drop w d))) 0 ≡ b % 256 ^ w)
      go (Ok s) e h = (s.pattern, s.fared, ap o (add-zero a) ∙ e, first_place w s.pattern (bytes_from o w (suc a) n (drop w d)))
      go (Err (NanOrInf v)) e h = absurd (omega (arith, h tt))
      go (Err (OutOfRange v lo hi)) e h = absurd (omega (arith, h tt))
      go (Err (FloatOutOfRange v lo hi)) e h = absurd (omega (arith, h tt))
  stored a (suc n) (suc i) d l h = go (o a) h (stored (suc a) n i (drop w d) (omega arith))
    where
      go : (x : Outcome) → (T (names_position (number_of (answer_next x a (answer_from o (suc a) n)))) → a + suc i < position_of (answer_next x a (answer_from o (suc a) n)))
          → ((T (names_position (number_of (answer_from o (suc a) n))) → suc a + i < position_of (answer_from o (suc a) n)) → (b : ℕ) × (f : Fared) × (o (suc a + i) ≡ stored_as b f) × (pattern_at w (bytes_from o w (suc a) n (drop w d)) i ≡ b % 256 ^ w))
          → (b : ℕ) × (f : Fared) × (o (a + suc i) ≡ stored_as b f) × (pattern_at w (bytes_next x w d (bytes_from o w (suc a) n (drop w d))) (suc i) ≡ b % 256 ^ w)
      go (Ok s) h f = let g = f (λ m. omega (arith, h m)) in (g.0, g.1, ap o (move a i) ∙ g.2, next_place w s.pattern i (bytes_from o w (suc a) n (drop w d)) ∙ g.3)
        where
          move : (a i : ℕ) → a + suc i ≡ suc a + i
          move a i = omega arith
      go (Err (NanOrInf v)) h f = absurd (omega (arith, h tt))
      go (Err (OutOfRange v lo hi)) h f = absurd (omega (arith, h tt))
      go (Err (FloatOutOfRange v lo hi)) h f = absurd (omega (arith, h tt))

  -- from the refused position on, the bytes are as they were
  kept : (a n q : ℕ) (d : List ℕ) → T (names_position (number_of (answer_from o a n))) → position_of (answer_from o a n) ≡ a + q → drop (q * w) (bytes_from o w a n d) ≡ drop (q * w) d
  kept a zero q d h e = refl
  kept a (suc n) q d h e = go (o a) q h e (λ r. kept (suc a) n r (drop w d))
    where
      go : (x : Outcome) (q : ℕ) → T (names_position (number_of (answer_next x a (answer_from o (suc a) n)))) → position_of (answer_next x a (answer_from o (suc a) n)) ≡ a + q
          → ((r : ℕ) → T (names_position (number_of (answer_from o (suc a) n))) → position_of (answer_from o (suc a) n) ≡ suc a + r → drop (r * w) (bytes_from o w (suc a) n (drop w d)) ≡ drop (r * w) (drop w d))
          → drop (q * w) (bytes_next x w d (bytes_from o w (suc a) n (drop w d))) ≡ drop (q * w) d
      go (Ok s) zero h e f = absurd (omega (arith, later o w (suc a) n h))
      go (Ok s) (suc r) h e f =
          ap (λ (z : ℕ). drop z (to_le w s.pattern ++ bytes_from o w (suc a) n (drop w d))) (shift s.pattern r)
          ∙ drop-append-add (to_le w s.pattern) (bytes_from o w (suc a) n (drop w d)) (r * w)
          ∙ f r h (omega arith)
          ∙ drop-drop (r * w) w d
          ∙ ap (λ (z : ℕ). drop z d) (again r w)
        where
          shift : (b r : ℕ) → suc r * w ≡ length (to_le w b) + r * w
          shift b r = omega (arith, length-to_le w b)

          again : (r w : ℕ) → w + r * w ≡ suc r * w
          again r w = omega arith
      go (Err (NanOrInf v)) q h e f = refl
      go (Err (OutOfRange v lo hi)) q h e f = refl
      go (Err (FloatOutOfRange v lo hi)) q h e f = refl

-- ---- the call
elements_answer : (o : ℕ → Outcome) (a n : ℕ) → ToElements (answer_from o a n)
elements_answer o a zero = inl refl
elements_answer o a (suc n) = go (o a) (elements_answer o (suc a) n)
  where
    go : (x : Outcome) → ToElements (answer_from o (suc a) n) → ToElements (answer_next x a (answer_from o (suc a) n))
    go (Ok s) f = f
    go (Err (NanOrInf v)) f = inr tt
    go (Err (OutOfRange v lo hi)) f = inr tt
    go (Err (FloatOutOfRange v lo hi)) f = inr tt

-- an answer to the elements has not the number of a check
no_check : (x : Answer) → ToElements x → T (leaves_all (number_of x)) → ⊥
no_check x (inl z) l = subst (λ (n : ℕ). T (leaves_all n)) z l
no_check x (inr h) l = never_both (number_of x) l h

-- an outcome refuses whose number names a position
refuses : (x : Outcome) → T (names_position (outcome_number x)) → Refuses x
refuses (Ok s) h = absurd h
refuses (Err (NanOrInf v)) h = tt
refuses (Err (OutOfRange v lo hi)) h = tt
refuses (Err (FloatOutOfRange v lo hi)) h = tt

-- a place that is served as a refused outcome asks has that refusal's number and position
refused_by : (k : Kind) (r : Answer) (v : Value) (i : ℕ) (x : Outcome) → Served k r v i x → T (names_position (outcome_number x)) → (number_of r ≡ outcome_number x) × (position_of r ≡ i)
refused_by k r v i (Ok z) s h = absurd h
refused_by k r v i (Err (NanOrInf u)) s h = s
refused_by k r v i (Err (OutOfRange u lo hi)) s h = s
refused_by k r v i (Err (FloatOutOfRange u lo hi)) s h = s

-- an answer that names no position and is not the number 4 has no values
plain_values : (r : Answer) → names_position (number_of r) ≡ false → number_of r ≢ 4 → values_of r ≡ no_values
plain_values (Ok all) h f = refl
plain_values (Err A.UnknownCode) h f = refl
plain_values (Err A.BrokenMap) h f = refl
plain_values (Err A.BrokenElement) h f = refl
plain_values (Err (A.LengthMismatch s d)) h f = absurd (f refl)
plain_values (Err (A.NanOrInf i v)) h f = absurd (true≢false h)
plain_values (Err (A.OutOfRange i v lo hi)) h f = absurd (true≢false h)
plain_values (Err (A.FloatOutOfRange i v lo hi)) h f = absurd (true≢false h)
plain_values (Err A.BarredWrap) h f = refl

module _ (I : Inputs) where
  abbrev o : ℕ → Outcome
  o = outcome_at (call_of I)

  abbrev n : ℕ
  n = (call_of I).count

  pub refused_early : (call_of I).passed ≡ false → T (leaves_all (number_of (answer_of I)))
  unfolding answer_of call_of
  refused_early e = tested_by (λ (r : Answer). T (leaves_all (number_of r))) (checks_of I) _ (tt, (tt, (tt, (tt, (tt, tt))))) (λ p. absurd (true≢false (sym p ∙ e)))

  left_alone : (call_of I).passed ≡ false → destination_of I ≡ I.destination
  unfolding destination_of
  left_alone e = ap (λ (c : Bool). cond c (bytes_from o (dw I) 0 n I.destination) I.destination) e

  why : Causes (codes_listed I) (wrap_permitted I) (map_whole I) (bytes_whole I) (counts_meet I) (answer_of I)
  unfolding answer_of
  why = causes (codes_listed I) (wrap_permitted I) (map_whole I) (bytes_whole I) (counts_meet I) _ _ _ (elements_answer o 0 n)

  -- the number 4 comes with both counts
  both_counts_lem : number_of (answer_of I) ≡ 4 → values_of (answer_of I) ≡ both_counts (length I.source / sw I) (length I.destination / dw I)
  unfolding answer_of
  both_counts_lem = tested_by (λ (r : Answer). number_of r ≡ 4 → values_of r ≡ both_counts (length I.source / sw I) (length I.destination / dw I)) (checks_of I) (answer_from o 0 n)
      (other 1 (λ e. omega arith), (other 8 (λ e. omega arith), (other 2 (λ e. omega arith), (other 3 (λ e. omega arith), (λ e. refl, tt)))))
      (λ _ e. absurd (no_check (answer_from o 0 n) (elements_answer o 0 n) (subst (λ (m : ℕ). T (leaves_all m)) (sym e) tt)))
    where
      other : (m : ℕ) → (m ≡ 4 → ⊥) → {P : Type 0} → m ≡ 4 → P
      other m f e = absurd (f e)

  module _ (t : T (call_of I).passed) where
    place : (i : ℕ) → i < n → (T (names_position (number_of (answer_of I))) → i < position_of (answer_of I)) → ConvertedTo I (destination_of I) i
    place i l h =
        let s = stored o (dw I) 0 n i I.destination l (λ m. subst (λ (z : ℕ). z < position_of (answer_from o 0 n)) (sym (zero-add i)) (subst (λ (r : Answer). i < position_of r) (answer_is I t) (h (subst (λ (r : Answer). T (names_position (number_of r))) (sym (answer_is I t)) m)))) in
        record { pattern = s.0; fared = s.1; outcome = ap o (sym (zero-add i)) ∙ s.2; stored = ap (λ (d : List ℕ). pattern_at (dw I) d i) (destination_is I t) ∙ s.3 }

    rest : T (names_position (number_of (answer_of I))) → drop (position_of (answer_of I) * dw I) (destination_of I) ≡ drop (position_of (answer_of I) * dw I) I.destination
    rest h =
        let p = position_of (answer_of I) in
        ap (drop (p * dw I)) (destination_is I t)
        ∙ kept o (dw I) 0 n p I.destination (subst (λ (r : Answer). T (names_position (number_of r))) (answer_is I t) h) (ap position_of (sym (answer_is I t)) ∙ sym (zero-add p))

    own : T (names_position (number_of (answer_of I))) → Told o (dw I) (answer_of I) n
    own h = subst (λ (r : Answer). Told o (dw I) r n) (sym (answer_is I t)) (subst (λ (z : ℕ). Told o (dw I) (answer_from o 0 n) z) (zero-add n) (told o (dw I) 0 n (subst (λ (r : Answer). T (names_position (number_of r))) (answer_is I t) h)))

    reached : T (names_position (number_of (answer_of I))) → Reached (call_of I) (position_of (answer_of I))
    reached h = record { passed = t; within = (own h).0; before = λ k l r. subst Refuses (place k (omega (arith, (own h).0)) (λ _. l)).outcome r }

    not_early : T (leaves_all (number_of (answer_of I))) → ⊥
    not_early l = no_check (answer_from o 0 n) (elements_answer o 0 n) (subst (λ (r : Answer). T (leaves_all (number_of r))) (answer_is I t) l)

  abbrev Bad : ℕ → ℕ → Type 0
  Bad m i = ((number_of (answer_of I) ≡ m) × (position_of (answer_of I) ≡ i)) ↔ (Reached (call_of I) i × (outcome_number (o i) ≡ m))

  -- a reached element whose steps refuse it is the one that the answer names
  named : (m i : ℕ) → T (names_position m) → Reached (call_of I) i × (outcome_number (o i) ≡ m) → (number_of (answer_of I) ≡ m) × (position_of (answer_of I) ≡ i)
  named m i l p = let s = refused_by (kind_of I.to) (answer_of I) _ i (o i) (at_place I i p.0) (subst (λ (z : ℕ). T (names_position z)) (sym p.1) l) in (s.0 ∙ p.1, s.1)

  first_of : T (call_of I).passed → (m i : ℕ) → T (names_position m) → Bad m i
  first_of t m i l = (
    λ p. let h : T (names_position (number_of (answer_of I))) = subst (λ (z : ℕ). T (names_position z)) (sym p.0) l in
        (subst (Reached (call_of I)) p.1 (reached t h), ap (λ (z : ℕ). outcome_number (o z)) (sym p.1) ∙ sym (own t h).1 ∙ p.0),
    named m i l,
  )

  -- an overrun comes of range code 0, where no float is wrapped
  range_0 : T (call_of I).passed → number_of (answer_of I) ≡ 7 → I.range ≡ 0
  range_0 t e = overrun_range I t (position_of (answer_of I)) ((first_of t 7 (position_of (answer_of I)) tt).0 (e, refl)).1

  demand1_of : (c : Bool) → (call_of I).passed ≡ c → Demand1 I (answer_of I) (destination_of I)
  demand1_of true e = let t = subst T (sym e) tt in record {
    numbered = numbers (answer_of I);
    unknown_code = why.one;
    barred_wrap = why.eight;
    broken_map = why.two;
    broken_element = why.three;
    length_mismatch = why.four;
    first_bad = first_of t;
    overrun = range_0 t;
    plain = plain_values (answer_of I);
    counts = both_counts_lem;
    of_element = λ h. (own t h).2;
    long = ap length (destination_is I t) ∙ long_written I t;
    untouched = λ l. absurd (not_early t l);
    all_converted = λ z i l. place t i l (λ h. absurd (subst (λ (m : ℕ). T (names_position m)) z h));
    before = λ h i l. place t i (omega (arith, (own t h).0)) (λ _. l);
    after = λ h. rest t h;
  }
  demand1_of false e = let r = refused_early e in let no = never_both (number_of (answer_of I)) r in record {
    numbered = numbers (answer_of I);
    unknown_code = why.one;
    barred_wrap = why.eight;
    broken_map = why.two;
    broken_element = why.three;
    length_mismatch = why.four;
    first_bad = λ m i l. (λ p. absurd (no (subst (λ (z : ℕ). T (names_position z)) (sym p.0) l)), named m i l);
    overrun = λ s. absurd (no (subst (λ (z : ℕ). T (names_position z)) (sym s) tt));
    plain = plain_values (answer_of I);
    counts = both_counts_lem;
    of_element = λ h. absurd (no h);
    long = ap length (left_alone e);
    untouched = λ l. left_alone e;
    all_converted = λ z i l. absurd (subst (λ (m : ℕ). T (leaves_all m)) z r);
    before = λ h i l. absurd (no h);
    after = λ h. absurd (no h);
  }

  pub demand1 : Demand1 I (answer_of I) (destination_of I)
  demand1 = demand1_of (call_of I).passed refl

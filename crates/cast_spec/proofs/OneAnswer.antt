-- What demand 1 and the counts' classes settle: whatever the inputs are, any two answers that meet them have one number, one set of values and one set of counts, and any two destinations of bytes are one.
use Rattle.answers.specs.declared.Stored.{Stored}
use mathlib.Core.Path.{◌≡◌, refl, sym, ap, subst, ◌∙◌}
use mathlib.Core.Logic.{◌⊎◌, inl, inr, ⊎_elim}
use mathlib.Core.Bool.{Bool, true, false, ◌&&◌}
use mathlib.Core.List.{List}
use Prim.Native.Nat.{ℕ, zero, suc, ◌*◌, ◌%◌, ◌^◌, ◌≤◌, ◌<◌}
use native.Mathlib.Nat.{le_of_eq, le_of_lt, le_trans, mul-le-mul_right}
use native.Mathlib.Omega.{arith}
use lib.Dec.{T, eqb}
use lib.ListN.{length, drop}
use lib.Seq.{drop-length}
use borrow.Author.Tests.{eqb-true, eqb-false}
use Rattle.bytes_le.specs.Bytes.{pattern_at}
use Rattle.bytes_le.proofs.Unique.{AreBytes, one_chunk}
use Rattle.answers.specs.Answer.{number_of, names_position, leaves_all, values_of, position_of, outcome_values}
use Rattle.answers.proofs.Numbers.{names_or_leaves, leaves_1_to_4_and_8}
use Rattle.counts.specs.Counts.{count_of}
use Rattle.counts.specs.declared.Counts.{Counts}
use Rattle.counts.specs.declared.Fared.{Fared}
use Rattle.cast_spec.specs.Chunk.{Inputs, Call, call_of, outcome_at, dw, codes_listed, wrap_permitted, map_whole, bytes_whole, counts_meet, converted_of}
use Rattle.cast_spec.specs.Counted.{Fares, HowMany, Counted}
use Rattle.cast_spec.specs.Demand1.{ConvertedTo, Demand1}
use Rattle.cast_spec.proofs.Checks.{elements_fill}
use Rattle.grid.proofs.Neighbours.{cut}
use Rattle.answers.specs.Outcome.{Answer}

module _ (I : Inputs) where
  -- a refusal's cause is its own, so the other answer has the number too
  refused_alike : (r r' : Answer) (d d' : List ℕ) → Demand1 I r d → Demand1 I r' d' → (n : ℕ) → 1 ≤ n → number_of r ≡ n → number_of r' ≡ n
  refused_alike r r' d d' D D' n h e = ⊎_elim
      (λ (l : T (names_position n)). ((D'.first_bad n (position_of r) l).1 ((D.first_bad n (position_of r) l).0 (e, refl))).0)
      (λ (l : T (leaves_all n)). early n (leaves_1_to_4_and_8 n (subst (λ (m : ℕ). m ≤ 8) e D.numbered) l) e)
      (names_or_leaves n h)
    where
      early : (n : ℕ) → ((1 ≤ n) × (n ≤ 4)) ⊎ (n ≡ 8) → number_of r ≡ n → number_of r' ≡ n
      early n (inr b) e = D'.barred_wrap.1 (D.barred_wrap.0 (e ∙ b)) ∙ sym b
      early zero (inl l) e = absurd (omega (arith, l.0))
      early (suc zero) (inl l) e = D'.unknown_code.1 (D.unknown_code.0 e)
      early (suc (suc zero)) (inl l) e = D'.broken_map.1 (D.broken_map.0 e)
      early (suc (suc (suc zero))) (inl l) e = D'.broken_element.1 (D.broken_element.0 e)
      early (suc (suc (suc (suc zero)))) (inl l) e = D'.length_mismatch.1 (D.length_mismatch.0 e)
      early (suc (suc (suc (suc (suc n))))) (inl l) e = absurd (omega (arith, l.1))

  module _ (r r' : Answer) (d d' : List ℕ) (D : Demand1 I r d) (D' : Demand1 I r' d') where
    pub one_number : number_of r ≡ number_of r'
    one_number = cut 0 (number_of r) (λ h. sym (refused_alike r r' d d' D D' (number_of r) h refl))
        (λ h. cut 0 (number_of r') (λ l. refused_alike r' r d' d D' D (number_of r') l refl) (λ l. omega arith))

    pub one_position : T (names_position (number_of r)) → position_of r ≡ position_of r'
    one_position l = sym ((D'.first_bad (number_of r) (position_of r) l).1 ((D.first_bad (number_of r) (position_of r) l).0 (refl, refl))).1

    pub one_set_of_values : values_of r ≡ values_of r'
    one_set_of_values = go (names_position (number_of r)) refl
      where
        go : (b : Bool) → names_position (number_of r) ≡ b → values_of r ≡ values_of r'
        go true e =
            let l : T (names_position (number_of r)) = subst T (sym e) tt in
            D.of_element l ∙ ap (λ (i : ℕ). outcome_values i (outcome_at (call_of I) i)) (one_position l) ∙ sym (D'.of_element (subst (λ (n : ℕ). T (names_position n)) one_number l))
        go false e = by_4 (eqb (number_of r) 4) refl
          where
            by_4 : (b : Bool) → eqb (number_of r) 4 ≡ b → values_of r ≡ values_of r'
            by_4 true f = let four = eqb-true (number_of r) 4 f in D.counts four ∙ sym (D'.counts (sym one_number ∙ four))
            by_4 false f = let other = eqb-false (number_of r) 4 f in D.plain e other ∙ sym (D'.plain (ap names_position (sym one_number) ∙ e) (λ g. other (one_number ∙ g)))

-- ---- the destination
-- checks none of which is the first that fails
none_fails : (a b c d e : Bool) → (a ≡ false → ⊥) → ((a ≡ true) × (b ≡ false) → ⊥) → ((a ≡ true) × (b ≡ true) × (c ≡ false) → ⊥) → ((a ≡ true) × (b ≡ true) × (c ≡ true) × (d ≡ false) → ⊥)
    → ((a ≡ true) × (b ≡ true) × (c ≡ true) × (d ≡ true) × (e ≡ false) → ⊥) → T (a && (b && (c && (d && (e && true)))))
none_fails false b c d e one eight two three four = absurd (one refl)
none_fails true false c d e one eight two three four = absurd (eight (refl, refl))
none_fails true true false d e one eight two three four = absurd (two (refl, refl, refl))
none_fails true true true false e one eight two three four = absurd (three (refl, refl, refl, refl))
none_fails true true true true false one eight two three four = absurd (four (refl, refl, refl, refl, refl))
none_fails true true true true true one eight two three four = tt

module _ (I : Inputs) (r r' : Answer) (d d' : List ℕ) (D : Demand1 I r d) (D' : Demand1 I r' d') where
  -- an element that is converted in both has one pattern
  one_pattern : (i : ℕ) → ConvertedTo I d i → ConvertedTo I d' i → pattern_at (dw I) d i ≡ pattern_at (dw I) d' i
  one_pattern i c c' = let h : ◌≡◌ {A = Stored} (record { pattern = c.pattern; fared = c.fared }) (record { pattern = c'.pattern; fared = c'.fared }) = cc in let e : c.pattern ≡ c'.pattern = ap (λ (s : Stored). s.pattern) h in c.stored ∙ ap (λ (b : ℕ). b % 256 ^ dw I) e ∙ sym c'.stored

  passed_with_0 : number_of r ≡ 0 → T (call_of I).passed
  unfolding call_of
  passed_with_0 z = none_fails (codes_listed I) (wrap_permitted I) (map_whole I) (bytes_whole I) (counts_meet I)
      (λ e. omega (arith, D.unknown_code.1 e)) (λ e. omega (arith, D.barred_wrap.1 e)) (λ e. omega (arith, D.broken_map.1 e)) (λ e. omega (arith, D.broken_element.1 e)) (λ e. omega (arith, D.length_mismatch.1 e))

  -- the first k elements are converted in both, and the rest is one
  joined : (k : ℕ) → AreBytes d → AreBytes d' → k * dw I ≤ length I.destination → ((i : ℕ) → i < k → ConvertedTo I d i × ConvertedTo I d' i) → drop (k * dw I) d ≡ drop (k * dw I) d' → d ≡ d'
  joined k b b' fits both rest = one_chunk (dw I) k d d' b b' (D.long ∙ sym D'.long) (subst (λ (n : ℕ). k * dw I ≤ n) (sym D.long) fits) (λ i l. one_pattern i (both i l).0 (both i l).1) rest

  pub one_destination : AreBytes d → AreBytes d' → d ≡ d'
  one_destination b b' = cut 0 (number_of r)
      (λ h. ⊎_elim of_refusal (λ (l : T (leaves_all (number_of r))). D.untouched l ∙ sym (D'.untouched (subst (λ (n : ℕ). T (leaves_all n)) same l))) (names_or_leaves (number_of r) h))
      (λ h. of_all (omega arith))
    where
      same : number_of r ≡ number_of r'
      same = one_number I r r' d d' D D'

      of_refusal : T (names_position (number_of r)) → d ≡ d'
      of_refusal l =
          let p = position_of r in
          let l' : T (names_position (number_of r')) = subst (λ (n : ℕ). T (names_position n)) same l in
          let at : p ≡ position_of r' = one_position I r r' d d' D D' l in
          let R = ((D.first_bad (number_of r) p l).0 (refl, refl)).0 in
          joined p b b' (le_trans (mul-le-mul_right (dw I) (le_of_lt R.within)) (le_of_eq (elements_fill I R.passed)))
          (λ i h. (D.before l i h, D'.before l' i (subst (λ (n : ℕ). i < n) at h)))
          (D.after l ∙ sym (ap (λ (n : ℕ). drop (n * dw I) d') at ∙ D'.after l' ∙ ap (λ (n : ℕ). drop (n * dw I) I.destination) (sym at)))

      of_all : number_of r ≡ 0 → d ≡ d'
      of_all z =
          let t = passed_with_0 z in
          let z' : number_of r' ≡ 0 = sym same ∙ z in
          joined (call_of I).count b b' (le_of_eq (elements_fill I t)) (λ i h. (D.all_converted z i h, D'.all_converted z' i h))
          (ap (λ (n : ℕ). drop n d) (elements_fill I t ∙ sym D.long) ∙ drop-length d ∙ sym (ap (λ (n : ℕ). drop n d') (elements_fill I t ∙ sym D'.long) ∙ drop-length d'))

-- ---- so many positions are of a class in one way, so any two sets of counts are one
how_many_once : (P : ℕ → Type 0) (n k k' : ℕ) → HowMany P n k → HowMany P n k' → k ≡ k'
how_many_once P zero k k' h h' = h ∙ sym h'
how_many_once P (suc n) zero zero h h' = refl
how_many_once P (suc n) zero (suc k') h (inl h') = absurd (h.0 h'.0)
how_many_once P (suc n) zero (suc k') h (inr h') = how_many_once P n zero (suc k') h.1 h'.1
how_many_once P (suc n) (suc k) zero (inl h) h' = absurd (h'.0 h.0)
how_many_once P (suc n) (suc k) zero (inr h) h' = how_many_once P n (suc k) zero h.1 h'.1
how_many_once P (suc n) (suc k) (suc k') (inl h) (inl h') = ap suc (how_many_once P n k k' h.1 h'.1)
how_many_once P (suc n) (suc k) (suc k') (inl h) (inr h') = absurd (h'.0 h.0)
how_many_once P (suc n) (suc k) (suc k') (inr h) (inl h') = absurd (h.0 h'.0)
how_many_once P (suc n) (suc k) (suc k') (inr h) (inr h') = how_many_once P n (suc k) (suc k') h.1 h'.1

pub one_set_of_counts : (c : Call) (r : Answer) (t t' : Counts) → Counted c r t → Counted c r t' → (f : Fared) → count_of f t ≡ count_of f t'
one_set_of_counts c r t t' h h' f = how_many_once (Fares c f) (converted_of c.count r) (count_of f t) (count_of f t') (h.each f) (h'.each f)

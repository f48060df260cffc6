-- The answer and the destination's places, from the outcomes.
use mathlib.Core.Path.{◌≡◌, refl, sym, ap, subst, ◌∙◌}
use mathlib.Core.List.{List}
use Prim.Native.Nat.{ℕ, zero, suc, ◌+◌, ◌%◌, ◌^◌, ◌≤◌, ◌<◌}
use native.Mathlib.Nat.{add-zero, mod-eq_of_lt}
use native.Mathlib.Omega.{arith}
use lib.Dec.{T}
use lib.ListN.{drop}
use Rattle.patterns.specs.Kind.{Kind, bits}
use Rattle.patterns.specs.Value.{value_of}
use Rattle.bytes_le.specs.Bytes.{pattern_at}
use Rattle.cast_spec.specs.Chunk.{answer_next, answer_from, bytes_next, bytes_from, Refuses}
use Rattle.answers.specs.Answer.{number_of, names_position, position_of}
use Rattle.cast_spec.proofs.Each.{Served}
use Rattle.bytes_le.proofs.Places.{first_place, next_place}
use Rattle.answers.specs.Outcome.{Outcome}
use Rattle.answers.specs.declared.ElementRefusal.TheVariants.{FloatOutOfRange, NanOrInf, OutOfRange}
use Rattle.std.specs.Prelude.{Err, Ok}

-- ---- one outcome among those from a on
module _ (o : ℕ → Outcome) (w : ℕ) where
  -- a refusal that is told lies at a or later
  pub later : (a n : ℕ) → T (names_position (number_of (answer_from o a n))) → a ≤ position_of (answer_from o a n)
  later a zero h = absurd h
  later a (suc n) h = go (o a) (later (suc a) n) h
    where
      go : (x : Outcome) → (T (names_position (number_of (answer_from o (suc a) n))) → suc a ≤ position_of (answer_from o (suc a) n)) → T (names_position (number_of (answer_next x a (answer_from o (suc a) n)))) → a ≤ position_of (answer_next x a (answer_from o (suc a) n))
      go (Ok s) f h = omega (arith, f h)
      go (Err (NanOrInf v)) f h = omega arith
      go (Err (OutOfRange v lo hi)) f h = omega arith
      go (Err (FloatOutOfRange v lo hi)) f h = omega arith

  -- the outcome at a itself
  here : (k : Kind) (a n : ℕ) (d : List ℕ) → 256 ^ w ≡ 2 ^ bits k → Served k (answer_from o a (suc n)) (value_of k (pattern_at w (bytes_from o w a (suc n) d) 0)) a (o a)
  here k a n d fit = go (o a)
    where
      go : (x : Outcome) → Served k (answer_next x a (answer_from o (suc a) n)) (value_of k (pattern_at w (bytes_next x w d (bytes_from o w (suc a) n (drop w d))) 0)) a x
      go (Ok s) = (
        λ h e. omega (arith, later (suc a) n h),
        λ (l : s.pattern < 2 ^ bits k). ap (value_of k) (first_place w s.pattern (bytes_from o w (suc a) n (drop w d)) ∙ ap (λ (z : ℕ). s.pattern % z) fit ∙ mod-eq_of_lt l),
      )
      go (Err (NanOrInf v)) = (refl, refl)
      go (Err (OutOfRange v lo hi)) = (refl, refl)
      go (Err (FloatOutOfRange v lo hi)) = (refl, refl)

  -- and the one at a + i, where none is refused before it
  pub served : (k : Kind) (i a n : ℕ) (d : List ℕ) → 256 ^ w ≡ 2 ^ bits k → i < n → ((j : ℕ) → a ≤ j → j < a + i → Refuses (o j) → ⊥)
      → Served k (answer_from o a n) (value_of k (pattern_at w (bytes_from o w a n d) i)) (a + i) (o (a + i))
  served k i a zero d fit h before = absurd (omega arith)
  served k zero a (suc n) d fit h before = rw add-zero (here k a n d fit)
  served k (suc i) a (suc n) d fit h before = go (o a) (before a (omega arith) (omega arith)) (subst (λ (z : ℕ). Served k (answer_from o (suc a) n) (value_of k (pattern_at w (bytes_from o w (suc a) n (drop w d)) i)) z (o z)) (move a i) (served k i (suc a) n (drop w d) fit (omega arith) (λ j l m. before j (omega arith) (omega arith))))
    where
      move : (a i : ℕ) → suc a + i ≡ a + suc i
      move a i = omega arith

      go : (x : Outcome) → (Refuses x → ⊥) → Served k (answer_from o (suc a) n) (value_of k (pattern_at w (bytes_from o w (suc a) n (drop w d)) i)) (a + suc i) (o (a + suc i))
          → Served k (answer_next x a (answer_from o (suc a) n)) (value_of k (pattern_at w (bytes_next x w d (bytes_from o w (suc a) n (drop w d))) (suc i))) (a + suc i) (o (a + suc i))
      go (Ok s) free f = subst (λ (z : ℕ). Served k (answer_from o (suc a) n) (value_of k z) (a + suc i) (o (a + suc i))) (sym (next_place w s.pattern i (bytes_from o w (suc a) n (drop w d)))) f
      go (Err (NanOrInf v)) free f = absurd (free tt)
      go (Err (OutOfRange v lo hi)) free f = absurd (free tt)
      go (Err (FloatOutOfRange v lo hi)) free f = absurd (free tt)

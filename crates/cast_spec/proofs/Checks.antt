-- What the checks settle: each number's cause, the answer and the destination behind them, and that the destination keeps its length.
use mathlib.Core.Path.{◌≡◌, refl, sym, ap, subst, ◌∙◌}
use mathlib.Core.Logic.{◌↔◌, ◌⊎◌, ⊎_elim}
use mathlib.Core.Bool.{Bool, true, false, ◌&&◌, cond, true≢false, false≢true}
use mathlib.Core.List.{List, [], ◌∷◌}
use Prim.Native.Nat.{ℕ, zero, suc, ◌+◌, ◌-◌, ◌*◌, ◌/◌, ◌%◌, ◌≤◌, ◌<◌}
use native.Mathlib.Nat.{div-add-mod', le_of_eq}
use native.Mathlib.Omega.{arith}
use lib.Dec.{T, eqb, eqb→eq, ltb, ltb→lt}
use lib.ListN.{length, drop, length-append, length-drop}
use Rattle.bytes_le.specs.Bytes.{to_le}
use Rattle.bytes_le.proofs.Sums.{length-to_le}
use Rattle.answers.specs.Answer.{number_of, names_position}
use Rattle.grid.proofs.Tests.{both}
use Rattle.answers.specs.declared.Refusal.TheVariants as A
use Rattle.cast_spec.specs.Chunk.{Inputs, sw, dw, codes_listed, wrap_permitted, map_whole, bytes_whole, counts_meet, Check, checks_of, all_pass, tested, call_of, outcome_at, answer_from, answer_of, bytes_next, bytes_from, destination_of}
use Rattle.answers.specs.Outcome.{Answer, Outcome}
use Rattle.answers.specs.declared.ElementRefusal.TheVariants.{FloatOutOfRange, NanOrInf, OutOfRange}
use Rattle.std.specs.Prelude.{Err, Ok}

-- ---- any checks
pub tested_pass : (cs : List Check) (x : Answer) → T (all_pass cs) → tested cs x ≡ x
tested_pass [] x t = refl
tested_pass (c ∷ cs) x t = go c.passes (tested_pass cs x) t
  where
    go : (b : Bool) → (T (all_pass cs) → tested cs x ≡ x) → T (b && all_pass cs) → cond b (tested cs x) (Err c.refusal) ≡ x
    go true f t = f t
    go false f t = absurd t

-- each of their refusals is so
abbrev pub EachRefusal : (Answer → Type 0) → List Check → Type 0
EachRefusal P [] = Unit {0}
EachRefusal P (c ∷ cs) = P (Err c.refusal) × EachRefusal P cs

-- what holds of each refusal, and of x where all pass, holds of the answer
pub tested_by : (P : Answer → Type 0) (cs : List Check) (x : Answer) → EachRefusal P cs → (all_pass cs ≡ true → P x) → P (tested cs x)
tested_by P [] x h g = g refl
tested_by P (c ∷ cs) x h g = go c.passes (tested_by P cs x h.1) g
  where
    go : (b : Bool) → ((all_pass cs ≡ true → P x) → P (tested cs x)) → (b && all_pass cs ≡ true → P x) → P (cond b (tested cs x) (Err c.refusal))
    go true f g = f g
    go false f g = h.0

pub whole_length : (l w : ℕ) → l % w ≡ 0 → l / w * w ≡ l
whole_length l w e = omega (arith, div-add-mod' l w)

chosen : (a : Bool) (x y : List ℕ) → T a → cond a x y ≡ x
chosen true x y t = refl
chosen false x y t = absurd t

-- ---- each check of a call that passes
module _ (I : Inputs) (t : T (call_of I).passed) where
  behind_1 : T (wrap_permitted I && (map_whole I && (bytes_whole I && (counts_meet I && true))))
  unfolding call_of
  behind_1 = (both (codes_listed I) _ t).1

  pub range_listed : I.range < 3
  unfolding call_of
  range_listed = ltb→lt I.range 3 (both (ltb I.from 11 && ltb I.to 11 && ltb I.rounding 5) (ltb I.range 3) (both (codes_listed I) _ t).0).1

  pub wrap_permitted_lem : T (wrap_permitted I)
  wrap_permitted_lem = (both (wrap_permitted I) _ behind_1).0

  pub map_whole_lem : T (map_whole I)
  map_whole_lem = (both (map_whole I) _ (both (wrap_permitted I) _ behind_1).1).0

  bytes_then_counts : T (bytes_whole I && (counts_meet I && true))
  bytes_then_counts = (both (map_whole I) _ (both (wrap_permitted I) _ behind_1).1).1

  bytes_whole_lem : T (bytes_whole I)
  bytes_whole_lem = (both (bytes_whole I) _ bytes_then_counts).0

  counts_equal : T (counts_meet I)
  counts_equal = (both (counts_meet I) _ (both (bytes_whole I) _ bytes_then_counts).1).0

module _ (I : Inputs) where
  pub answer_is : T (call_of I).passed → answer_of I ≡ answer_from (outcome_at (call_of I)) 0 (call_of I).count
  unfolding answer_of call_of
  answer_is t = tested_pass (checks_of I) _ t

  pub destination_is : T (call_of I).passed → destination_of I ≡ bytes_from (outcome_at (call_of I)) (dw I) 0 (call_of I).count I.destination
  unfolding destination_of
  destination_is t = chosen (call_of I).passed _ _ t

  pub not_passed : (call_of I).passed ≡ false → destination_of I ≡ I.destination
  unfolding destination_of
  not_passed e = simp e

  pub counts_meet_lem : T (call_of I).passed → (call_of I).count ≡ length I.destination / dw I
  unfolding call_of
  counts_meet_lem h = eqb→eq (length I.source / sw I) (length I.destination / dw I) (counts_equal I h)

  no_rest : T (call_of I).passed → T (eqb (length I.source % sw I) 0) × T (eqb (length I.destination % dw I) 0)
  no_rest h = both (eqb (length I.source % sw I) 0) (eqb (length I.destination % dw I) 0) (bytes_whole_lem I h)

  -- the elements fill the destination
  pub elements_fill : T (call_of I).passed → (call_of I).count * dw I ≡ length I.destination
  unfolding call_of
  elements_fill h = ap (λ (n : ℕ). n * dw I) (counts_meet_lem h) ∙ whole_length (length I.destination) (dw I) (eqb→eq (length I.destination % dw I) 0 (no_rest h).1)

  -- and the source
  pub source_filled : T (call_of I).passed → (call_of I).count * sw I ≡ length I.source
  unfolding call_of
  source_filled h = whole_length (length I.source) (sw I) (eqb→eq (length I.source % sw I) 0 (no_rest h).0)

-- ---- places that are there keep the destination's length
module _ (o : ℕ → Outcome) (w : ℕ) where
  length_bytes : (n i : ℕ) (d : List ℕ) → n * w ≤ length d → length (bytes_from o w i n d) ≡ length d
  length_bytes zero i d h = refl
  length_bytes (suc n) i d h = go (o i) (bytes_from o w (suc i) n (drop w d)) (length_bytes n (suc i) (drop w d) (subst (λ (z : ℕ). n * w ≤ z) (sym (length-drop w d)) (omega arith)) ∙ length-drop w d)
    where
      go : (x : Outcome) (r : List ℕ) → length r ≡ length d - w → length (bytes_next x w d r) ≡ length d
      go (Ok s) r e = length-append (to_le w s.pattern) r ∙ ap (λ (z : ℕ). z + length r) (length-to_le w s.pattern) ∙ omega arith
      go (Err (NanOrInf v)) r e = refl
      go (Err (OutOfRange v lo hi)) r e = refl
      go (Err (FloatOutOfRange v lo hi)) r e = refl

module _ (I : Inputs) where
  pub long_written : T (call_of I).passed → length (bytes_from (outcome_at (call_of I)) (dw I) 0 (call_of I).count I.destination) ≡ length I.destination
  long_written h = length_bytes (outcome_at (call_of I)) (dw I) (call_of I).count 0 I.destination (le_of_eq (elements_fill I h))

-- ---- the cause of each number, where the checks give a, b, c, d and e, the elements' answer is x, and s and t are the counts
abbrev checked : Bool → Bool → Bool → Bool → Bool → Answer → ℕ → ℕ → Answer
checked a b c d e x s t = cond a (cond b (cond c (cond d (cond e x (Err (A.LengthMismatch s t))) (Err A.BrokenElement)) (Err A.BrokenMap)) (Err A.BarredWrap)) (Err A.UnknownCode)

pub record Causes (a b c d e : Bool) (r : Answer) : Type 0 where
  pub one : (number_of r ≡ 1) ↔ (a ≡ false)
  pub eight : (number_of r ≡ 8) ↔ ((a ≡ true) × (b ≡ false))
  pub two : (number_of r ≡ 2) ↔ ((a ≡ true) × (b ≡ true) × (c ≡ false))
  pub three : (number_of r ≡ 3) ↔ ((a ≡ true) × (b ≡ true) × (c ≡ true) × (d ≡ false))
  pub four : (number_of r ≡ 4) ↔ ((a ≡ true) × (b ≡ true) × (c ≡ true) × (d ≡ true) × (e ≡ false))

-- an answer to the elements: all converted, or a refusal that names a position
abbrev pub ToElements : Answer → Type 0
ToElements x = (number_of x ≡ 0) ⊎ T (names_position (number_of x))

never : (m n : ℕ) → (m ≡ n → ⊥) → {P : Type 0} → m ≡ n → P
never m n f e = absurd (f e)

pub causes : (a b c d e : Bool) (x : Answer) (s t : ℕ) → ToElements x → Causes a b c d e (checked a b c d e x s t)
causes false b c d e x s t h = record {
  one = (λ _. refl, λ _. refl);
  eight = (never 1 8 (λ e. omega arith), λ p. absurd (false≢true p.0));
  two = (never 1 2 (λ e. omega arith), λ p. absurd (false≢true p.0));
  three = (never 1 3 (λ e. omega arith), λ p. absurd (false≢true p.0));
  four = (never 1 4 (λ e. omega arith), λ p. absurd (false≢true p.0));
}
causes true false c d e x s t h = record {
  one = (never 8 1 (λ e. omega arith), λ e. absurd (true≢false e));
  eight = (λ _. (refl, refl), λ _. refl);
  two = (never 8 2 (λ e. omega arith), λ p. absurd (false≢true p.1));
  three = (never 8 3 (λ e. omega arith), λ p. absurd (false≢true p.1));
  four = (never 8 4 (λ e. omega arith), λ p. absurd (false≢true p.1));
}
causes true true false d e x s t h = record {
  one = (never 2 1 (λ e. omega arith), λ e. absurd (true≢false e));
  eight = (never 2 8 (λ e. omega arith), λ p. absurd (true≢false p.1));
  two = (λ _. (refl, refl, refl), λ _. refl);
  three = (never 2 3 (λ e. omega arith), λ p. absurd (false≢true p.2));
  four = (never 2 4 (λ e. omega arith), λ p. absurd (false≢true p.2));
}
causes true true true false e x s t h = record {
  one = (never 3 1 (λ e. omega arith), λ e. absurd (true≢false e));
  eight = (never 3 8 (λ e. omega arith), λ p. absurd (true≢false p.1));
  two = (never 3 2 (λ e. omega arith), λ p. absurd (true≢false p.2));
  three = (λ _. (refl, refl, refl, refl), λ _. refl);
  four = (never 3 4 (λ e. omega arith), λ p. absurd (false≢true p.3));
}
causes true true true true false x s t h = record {
  one = (never 4 1 (λ e. omega arith), λ e. absurd (true≢false e));
  eight = (never 4 8 (λ e. omega arith), λ p. absurd (true≢false p.1));
  two = (never 4 2 (λ e. omega arith), λ p. absurd (true≢false p.2));
  three = (never 4 3 (λ e. omega arith), λ p. absurd (true≢false p.3));
  four = (λ _. (refl, refl, refl, refl, refl), λ _. refl);
}
causes true true true true true x s t h = record {
  one = (never (number_of x) 1 (other 1 (λ e. omega arith) (λ l. l)), λ e. absurd (true≢false e));
  eight = (never (number_of x) 8 (other 8 (λ e. omega arith) (λ l. l)), λ p. absurd (true≢false p.1));
  two = (never (number_of x) 2 (other 2 (λ e. omega arith) (λ l. l)), λ p. absurd (true≢false p.2));
  three = (never (number_of x) 3 (other 3 (λ e. omega arith) (λ l. l)), λ p. absurd (true≢false p.3));
  four = (never (number_of x) 4 (other 4 (λ e. omega arith) (λ l. l)), λ p. absurd (true≢false p.4));
}
  where
    other : (n : ℕ) → (0 ≡ n → ⊥) → (T (names_position n) → ⊥) → number_of x ≡ n → ⊥
    other n f g e = ⊎_elim (λ (z : number_of x ≡ 0). f (sym z ∙ e)) (λ (l : T (names_position (number_of x))). g (subst (λ (m : ℕ). T (names_position m)) e l)) h

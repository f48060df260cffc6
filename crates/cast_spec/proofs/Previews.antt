-- What a preview tells: what any conversion of the same inputs replies, 0 exactly where that changes nothing, 0 after it, and at most what is written.
use mathlib.Core.Path.{◌≡◌, refl, sym, ap, ap₂, subst, ◌∙◌}
use mathlib.Core.Logic.{◌↔◌, ◌≢◌, inl}
use mathlib.Core.Bool.{Bool, true, false, ◌&&◌, cond}
use mathlib.Core.List.{List, [], ◌∷◌, ◌++◌}
use Prim.Native.Nat.{ℕ, zero, suc, ◌+◌, ◌*◌, ◌/◌, ◌%◌, ◌≤◌}
use native.Mathlib.Nat.{add-zero}
use native.Mathlib.Numerals.{add-one}
use native.Mathlib.Omega.{arith}
use lib.Dec.{T, eqb}
use lib.ListN.{length, get_or, take, drop}
use lib.Seq.{take-suc, take-length, drop_at, drop-length, length-take-le}
use borrow.Author.Tests.{eqb-true, eqb-false}
use Rattle.bytes_le.specs.Bytes.{to_le}
use Rattle.bytes_le.proofs.Sums.{length-to_le}
use Rattle.hamming.specs.Distance.{distance}
use Rattle.hamming.proofs.Distances.{same_0, only_same_0, over_parts, at_most_front}
use Rattle.counts.specs.declared.Counts.{Counts}
use Rattle.answers.specs.Answer.{number_of, names_position, leaves_all, position_of}
use Rattle.answers.specs.declared.Refusal.TheVariants as A
use Rattle.answers.specs.declared.Preview.{Preview}
use Rattle.answers.specs.declared.Reply.{Reply}
use Rattle.cast_spec.specs.Chunk.{Inputs, inputs, sw, dw, codes_listed, wrap_permitted, map_whole, Call, settings_of, call_of, outcome_at, answer_of, destination_of, converted_of, bytes_next, bytes_from}
use Rattle.cast_spec.specs.Contract.{Contract}
use Rattle.cast_spec.specs.Counted.{HowMany}
use Rattle.cast_spec.specs.Preview.{preview_of, Changes, Previewed}
use Rattle.cast_spec.proofs.Checks.{elements_fill, not_passed}
use Rattle.cast_spec.proofs.Counts.{counted, miss}
use Rattle.cast_spec.proofs.Demand1.{demand1}
use Rattle.answers.specs.Outcome.{Answer, Outcome}
use Rattle.answers.specs.declared.ElementRefusal.TheVariants.{FloatOutOfRange, NanOrInf, OutOfRange}
use Rattle.std.specs.Prelude.{Err, Ok}

-- ---- the distance of two rows is how many places differ
places_below : (xs ys : List ℕ) → length xs ≡ length ys → (n : ℕ) → n ≤ length xs → HowMany (λ (j : ℕ). get_or xs j 0 ≢ get_or ys j 0) n (distance (take n xs) (take n ys))
places_below xs ys same zero h = refl
places_below xs ys same (suc n) h = subst (HowMany (λ (j : ℕ). get_or xs j 0 ≢ get_or ys j 0) (suc n)) (sym last) (go (eqb (get_or xs n 0) (get_or ys n 0)) refl (places_below xs ys same n (omega arith)))
  where
    last : distance (take (suc n) xs) (take (suc n) ys) ≡ distance (take n xs) (take n ys) + cond (eqb (get_or xs n 0) (get_or ys n 0)) 0 1
    last = ap₂ distance (take-suc xs n 0 (omega arith)) (take-suc ys n 0 (omega arith))
        ∙ over_parts (take n xs) (take n ys) (get_or xs n 0 ∷ []) (get_or ys n 0 ∷ []) (length-take-le n xs (omega arith) ∙ sym (length-take-le n ys (omega arith)))

    go : (b : Bool) → eqb (get_or xs n 0) (get_or ys n 0) ≡ b → HowMany (λ (j : ℕ). get_or xs j 0 ≢ get_or ys j 0) n (distance (take n xs) (take n ys))
        → HowMany (λ (j : ℕ). get_or xs j 0 ≢ get_or ys j 0) (suc n) (distance (take n xs) (take n ys) + cond b 0 1)
    go true e r = rw add-zero (miss (λ (j : ℕ). get_or xs j 0 ≢ get_or ys j 0) n (distance (take n xs) (take n ys)) (λ f. f (eqb-true _ _ e)) r)
    go false e r = rw add-one (inl (eqb-false _ _ e, r))

-- ---- what the definitions give
module _ (I : Inputs) where
  long : length (destination_of I) ≡ length I.destination
  long = (demand1 I).long

  changes : HowMany (Changes I) (length I.destination) (distance I.destination (destination_of I))
  changes = subst (HowMany (Changes I) (length I.destination)) (ap₂ distance (take-length I.destination) (ap (λ (n : ℕ). take n (destination_of I)) (sym long) ∙ take-length (destination_of I)))
      (places_below I.destination (destination_of I) (sym long) (length I.destination) (omega arith))

  whole : Previewed I (preview_of I)
  unfolding preview_of
  whole = record { figures = refl; demand1 = demand1 I; counted = counted I; changes = changes }

  -- the equation is all that a program has to show
  pub previewed : (p : Preview) → p ≡ preview_of I → Previewed I p
  previewed p e = subst (Previewed I) (sym e) whole

  -- the preview of what a conversion leaves
  pub preview_is : (r : Reply) (d : List ℕ) → Contract I r d → record { reply = r; changed = distance I.destination d } ≡ preview_of I
  unfolding preview_of
  preview_is r d C = ap₂ {C = Preview} (λ (q : Reply) (e : List ℕ). record { reply = q; changed = distance I.destination e }) (ap₂ {C = Reply} (λ (x : Answer) (y : Counts). record { answer = x; counts = y }) C.answer C.counts) C.bytes

  -- "It equals the answer of converting into a copy of the destination, for all inputs": of any conversion and any preview
  pub as_converting : (r : Reply) (d : List ℕ) → Contract I r d → (p : Preview) → Previewed I p → p ≡ record { reply = r; changed = distance I.destination d }
  as_converting r d C p P = P.figures ∙ sym (preview_is r d C)

  -- 0 exactly where the destination would stay as it is
  pub zero_exactly : ((preview_of I).changed ≡ 0) ↔ (destination_of I ≡ I.destination)
  unfolding preview_of
  zero_exactly = (λ z. sym (only_same_0 I.destination (destination_of I) z), λ e. ap (distance I.destination) e ∙ same_0 I.destination)

  -- ---- at most the bytes of the converted elements
  untouched : (r : Answer) → answer_of I ≡ r → T (leaves_all (number_of r)) → (k : ℕ) → drop k I.destination ≡ drop k (destination_of I)
  untouched r e l k = ap (drop k) (sym ((demand1 I).untouched (subst (λ (a : Answer). T (leaves_all (number_of a))) (sym e) l)))

  from_position : (r : Answer) → answer_of I ≡ r → T (names_position (number_of r)) → drop (position_of r * dw I) I.destination ≡ drop (position_of r * dw I) (destination_of I)
  from_position r e l = subst (λ (a : Answer). drop (position_of a * dw I) I.destination ≡ drop (position_of a * dw I) (destination_of I)) e (sym ((demand1 I).after (subst (λ (a : Answer). T (names_position (number_of a))) (sym e) l)))

  -- behind them the bytes stay
  same_behind : (r : Answer) → answer_of I ≡ r → T (call_of I).passed → let k = converted_of (call_of I).count r * dw I in drop k I.destination ≡ drop k (destination_of I)
  same_behind (Ok all) e t =
      ap (λ (k : ℕ). drop k I.destination) (elements_fill I t) ∙ drop-length I.destination
      ∙ sym (ap (λ (k : ℕ). drop k (destination_of I)) (elements_fill I t ∙ sym long) ∙ drop-length (destination_of I))
  same_behind (Err A.UnknownCode) e t = untouched (Err A.UnknownCode) e tt (0 * dw I)
  same_behind (Err A.BrokenMap) e t = untouched (Err A.BrokenMap) e tt (0 * dw I)
  same_behind (Err A.BrokenElement) e t = untouched (Err A.BrokenElement) e tt (0 * dw I)
  same_behind (Err (A.LengthMismatch a b)) e t = untouched (Err (A.LengthMismatch a b)) e tt (0 * dw I)
  same_behind (Err (A.NanOrInf j v)) e t = from_position (Err (A.NanOrInf j v)) e tt
  same_behind (Err (A.OutOfRange j v lo hi)) e t = from_position (Err (A.OutOfRange j v lo hi)) e tt
  same_behind (Err (A.FloatOutOfRange j v lo hi)) e t = from_position (Err (A.FloatOutOfRange j v lo hi)) e tt
  same_behind (Err A.BarredWrap) e t = untouched (Err A.BarredWrap) e tt (0 * dw I)

  pub at_most_written : (preview_of I).changed ≤ converted_of (call_of I).count (answer_of I) * dw I
  unfolding preview_of
  at_most_written = at_most_front _ I.destination (destination_of I) (sym long) (go (call_of I).passed refl)
    where
      go : (b : Bool) → (call_of I).passed ≡ b → let k = converted_of (call_of I).count (answer_of I) * dw I in drop k I.destination ≡ drop k (destination_of I)
      go true e = same_behind (answer_of I) refl (subst T (sym e) tt)
      go false e = ap (drop (converted_of (call_of I).count (answer_of I) * dw I)) (sym (not_passed I e))

-- ---- the same call over what it has left changes nothing
module _ (o : ℕ → Outcome) (w : ℕ) where
  bytes_again : (n i : ℕ) (d : List ℕ) → bytes_from o w i n (bytes_from o w i n d) ≡ bytes_from o w i n d
  bytes_again zero i d = refl
  bytes_again (suc n) i d = go (o i) (bytes_from o w (suc i) n (drop w d)) (bytes_again n (suc i) (drop w d))
    where
      go : (x : Outcome) (r : List ℕ) → bytes_from o w (suc i) n r ≡ r → bytes_next x w (bytes_next x w d r) (bytes_from o w (suc i) n (drop w (bytes_next x w d r))) ≡ bytes_next x w d r
      go (Ok s) r e = ap (λ (z : List ℕ). to_le w s.pattern ++ bytes_from o w (suc i) n z) (drop_at (to_le w s.pattern) r w (length-to_le w s.pattern)) ∙ ap (λ (z : List ℕ). to_le w s.pattern ++ z) e
      go (Err (NanOrInf v)) r e = refl
      go (Err (OutOfRange v lo hi)) r e = refl
      go (Err (FloatOutOfRange v lo hi)) r e = refl

-- the inputs with another destination
abbrev pub over : Inputs → List ℕ → Inputs
over I d = inputs I.source d I.keys I.targets I.from I.to I.rounding I.range

module _ (I : Inputs) where
  -- of as many bytes it makes the same call
  same_call : (d : List ℕ) → length d ≡ length I.destination → call_of (over I d) ≡ call_of I
  unfolding call_of settings_of
  same_call d e = ap {B = Call} (λ (n : ℕ). record {
    settings = (call_of I).settings;
    passed = codes_listed I && (wrap_permitted I && (map_whole I && (eqb (length I.source % sw I) 0 && eqb (n % dw I) 0 && (eqb (length I.source / sw I) (n / dw I) && true))));
    count = (call_of I).count;
    element = (call_of I).element;
  }) e

  written_again : destination_of (over I (destination_of I)) ≡ destination_of I
  unfolding destination_of
  written_again = ap (λ (c : Call). cond c.passed (bytes_from (outcome_at c) (dw I) 0 c.count (destination_of I)) (destination_of I)) (same_call (destination_of I) (long I)) ∙ go (call_of I).passed
    where
      D : Bool → List ℕ
      D b = cond b (bytes_from (outcome_at (call_of I)) (dw I) 0 (call_of I).count I.destination) I.destination

      go : (b : Bool) → cond b (bytes_from (outcome_at (call_of I)) (dw I) 0 (call_of I).count (D b)) (D b) ≡ D b
      go true = bytes_again (outcome_at (call_of I)) (dw I) (call_of I).count 0 I.destination
      go false = refl

  -- also where a refusal has ended it
  pub again_0 : (r : Reply) (d : List ℕ) → Contract I r d → (preview_of (over I d)).changed ≡ 0
  again_0 r d C = subst (λ (e : List ℕ). (preview_of (over I e)).changed ≡ 0) (sym C.bytes) ((zero_exactly (over I (destination_of I))).1 written_again)

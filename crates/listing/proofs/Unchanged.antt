-- What stands in the destination before a call shows in no line of the report, and a position lies before the count.
use mathlib.Core.Path.{◌≡◌, refl, sym, ap, subst, ◌∙◌}
use mathlib.Core.Bool.{Bool, true, false, ◌&&◌, cond}
use mathlib.Core.List.{List, [], ◌∷◌, ◌++◌}
use Prim.Native.Nat.{ℕ, zero, suc, ◌+◌, ◌-◌, ◌/◌, ◌≤◌}
use native.Mathlib.Nat.{sub-zero, zero-add}
use native.Mathlib.Omega.{arith}
use lib.ListN.{length, drop}
use Rattle.bytes_le.specs.Bytes.{to_le, pattern_at}
use Rattle.bytes_le.proofs.Places.{first_place, next_place}
use Rattle.answers.specs.Answer.{number_of, position_of}
use Rattle.cast_spec.specs.Chunk.{Inputs, inputs, sw, dw, Check, checks_of, all_pass, tested, call_of, settings_of, outcome_at, answer_next, answer_from, answer_of, bytes_next, bytes_from, destination_of}
use Rattle.cast_spec.proofs.Checks.{EachRefusal, tested_by}
use Rattle.report.specs.Report.{converted, first_line, line, lines, report}
use Rattle.listing.specs.Listing.{report_of}
use Rattle.answers.specs.Outcome.{Answer, Outcome}
use Rattle.answers.specs.declared.ElementRefusal.TheVariants.{FloatOutOfRange, NanOrInf, OutOfRange}
use Rattle.std.specs.Prelude.{Err, Ok}

-- how many elements an answer converts of n
abbrev shown : Answer → ℕ → ℕ
shown r n = converted (number_of r) (position_of r) n

-- ---- lines after an element
lines_after : (w b : ℕ) (rest : List ℕ) (i k : ℕ) → lines w (to_le w b ++ rest) (suc i) k ≡ lines w rest i k
lines_after w b rest i zero = refl
lines_after w b rest i (suc k) =
    ap (λ (z : ℕ). line w z ++ lines w (to_le w b ++ rest) (suc (suc i)) k) (next_place w b i rest)
    ∙ ap (λ (z : List ℕ). line w (pattern_at w rest i) ++ z) (lines_after w b rest (suc i) k)

module _ (o : ℕ → Outcome) (w : ℕ) where
  -- the elements before a are converted, and a position lies among n from a on
  shown_from : (a n : ℕ) → a ≤ shown (answer_from o a n) (a + n)
  shown_from a zero = omega arith
  shown_from a (suc n) = go (o a) (shown_from (suc a) n)
    where
      same : (a n : ℕ) → suc a + n ≡ a + suc n
      same a n = omega arith

      go : (x : Outcome) → suc a ≤ shown (answer_from o (suc a) n) (suc a + n) → a ≤ shown (answer_next x a (answer_from o (suc a) n)) (a + suc n)
      go (Ok s) h = let g = subst (λ (z : ℕ). suc a ≤ shown (answer_from o (suc a) n) z) (same a n) h in omega arith
      go (Err (NanOrInf v)) h = omega arith
      go (Err (OutOfRange v lo hi)) h = omega arith
      go (Err (FloatOutOfRange v lo hi)) h = omega arith

  position_before : (a n : ℕ) → position_of (answer_from o a n) ≤ a + n
  position_before a zero = omega arith
  position_before a (suc n) = go (o a) (position_before (suc a) n)
    where
      go : (x : Outcome) → position_of (answer_from o (suc a) n) ≤ suc a + n → position_of (answer_next x a (answer_from o (suc a) n)) ≤ a + suc n
      go (Ok s) h = omega arith
      go (Err (NanOrInf v)) h = omega arith
      go (Err (OutOfRange v lo hi)) h = omega arith
      go (Err (FloatOutOfRange v lo hi)) h = omega arith

  -- the converted elements' lines do not depend on what stood there
  same_lines : (a n : ℕ) (d d' : List ℕ) → lines w (bytes_from o w a n d) 0 (shown (answer_from o a n) (a + n) - a) ≡ lines w (bytes_from o w a n d') 0 (shown (answer_from o a n) (a + n) - a)
  same_lines a zero d d' = ap (λ (z : ℕ). lines w d 0 z) (none a) ∙ sym (ap (λ (z : ℕ). lines w d' 0 z) (none a))
    where
      none : (a : ℕ) → a + 0 - a ≡ 0
      none a = omega arith
  same_lines a (suc n) d d' = go (o a) (shown_from (suc a) n) (same_lines (suc a) n (drop w d) (drop w d'))
    where
      R : Answer
      R = answer_from o (suc a) n

      W : List ℕ → List ℕ
      W e = bytes_from o w (suc a) n (drop w e)

      none : a - a ≡ 0
      none = omega arith

      refuses : (e : List ℕ) → lines w e 0 (a - a) ≡ []
      refuses e = ap (lines w e 0) none

      count : suc a ≤ shown R (suc a + n) → shown R (a + suc n) - a ≡ suc (shown R (suc a + n) - suc a)
      count h = ap (λ (z : ℕ). shown R z - a) (same a n) ∙ one_more (shown R (suc a + n)) a h
        where
          same : (a n : ℕ) → a + suc n ≡ suc a + n
          same a n = omega arith

          one_more : (q a : ℕ) → suc a ≤ q → q - a ≡ suc (q - suc a)
          one_more q a h = omega arith

      one : (b : ℕ) (e : List ℕ) (k : ℕ) → lines w (to_le w b ++ W e) 0 (suc k) ≡ line w (pattern_at w (to_le w b ++ []) 0) ++ lines w (W e) 0 k
      one b e k =
          ap (λ (z : ℕ). line w z ++ lines w (to_le w b ++ W e) 1 k) (first_place w b (W e) ∙ sym (first_place w b []))
          ∙ ap (λ (z : List ℕ). line w (pattern_at w (to_le w b ++ []) 0) ++ z) (lines_after w b (W e) 0 k)

      go : (x : Outcome) → suc a ≤ shown R (suc a + n) → lines w (W d) 0 (shown R (suc a + n) - suc a) ≡ lines w (W d') 0 (shown R (suc a + n) - suc a)
          → lines w (bytes_next x w d (W d)) 0 (shown (answer_next x a R) (a + suc n) - a) ≡ lines w (bytes_next x w d' (W d')) 0 (shown (answer_next x a R) (a + suc n) - a)
      go (Ok s) h e =
          ap (lines w (to_le w s.pattern ++ W d) 0) (count h)
          ∙ one s.pattern d (shown R (suc a + n) - suc a)
          ∙ ap (λ (z : List ℕ). line w (pattern_at w (to_le w s.pattern ++ []) 0) ++ z) e
          ∙ sym (one s.pattern d' (shown R (suc a + n) - suc a))
          ∙ sym (ap (lines w (to_le w s.pattern ++ W d') 0) (count h))
      go (Err (NanOrInf v)) h e = refuses d ∙ sym (refuses d')
      go (Err (OutOfRange v lo hi)) h e = refuses d ∙ sym (refuses d')
      go (Err (FloatOutOfRange v lo hi)) h e = refuses d ∙ sym (refuses d')

  -- from the first on
  same_from_first : (n : ℕ) (d d' : List ℕ) → lines w (bytes_from o w 0 n d) 0 (shown (answer_from o 0 n) n) ≡ lines w (bytes_from o w 0 n d') 0 (shown (answer_from o 0 n) n)
  same_from_first n d d' = subst (λ (k : ℕ). lines w (bytes_from o w 0 n d) 0 k ≡ lines w (bytes_from o w 0 n d') 0 k) (sub-zero (shown (answer_from o 0 n) (0 + n)) ∙ ap (shown (answer_from o 0 n)) (zero-add n)) (same_lines 0 n d d')

-- ---- the whole call, by its checks
lines_checked : (w n : ℕ) (cs : List Check) (R : Answer) (W W' d d' : List ℕ) → EachRefusal (λ (r : Answer). shown r n ≡ 0) cs → lines w W 0 (shown R n) ≡ lines w W' 0 (shown R n)
    → lines w (cond (all_pass cs) W d) 0 (shown (tested cs R) n) ≡ lines w (cond (all_pass cs) W' d') 0 (shown (tested cs R) n)
lines_checked w n [] R W W' d d' none h = h
lines_checked w n (c ∷ cs) R W W' d d' none h = go c.passes (lines_checked w n cs R W W' d d' none.1 h)
  where
    go : (b : Bool) → lines w (cond (all_pass cs) W d) 0 (shown (tested cs R) n) ≡ lines w (cond (all_pass cs) W' d') 0 (shown (tested cs R) n)
        → lines w (cond (b && all_pass cs) W d) 0 (shown (cond b (tested cs R) (Err c.refusal)) n) ≡ lines w (cond (b && all_pass cs) W' d') 0 (shown (cond b (tested cs R) (Err c.refusal)) n)
    go true f = f
    go false f = ap (lines w d 0) none.0 ∙ sym (ap (lines w d' 0) none.0)

pub position_counted : (I : Inputs) → position_of (answer_of I) ≤ length I.source / sw I
unfolding answer_of call_of
position_counted I =
    let n = length I.source / sw I in
    tested_by (λ (r : Answer). position_of r ≤ n) (checks_of I) _ (omega arith, (omega arith, (omega arith, (omega arith, (omega arith, tt))))) (λ _. omega (arith, position_before (outcome_at (call_of I)) (dw I) 0 n))

module _ (src d d' keys targets : List ℕ) (f t o g : ℕ) (same : length d ≡ length d') where
  abbrev I : Inputs
  I = inputs src d keys targets f t o g

  abbrev I' : Inputs
  I' = inputs src d' keys targets f t o g

  same_answer : answer_of I ≡ answer_of I'
  unfolding answer_of outcome_at call_of settings_of
  same_answer = rw same

  same_shown : lines (dw I) (destination_of I) 0 (shown (answer_of I') (length src / sw I)) ≡ lines (dw I) (destination_of I') 0 (shown (answer_of I') (length src / sw I))
  unfolding answer_of destination_of outcome_at call_of settings_of
  same_shown =
      let n = length src / sw I in
      let c = outcome_at (call_of I') in
      rw same
      (lines_checked (dw I) n (checks_of I') (answer_from c 0 n) (bytes_from c (dw I) 0 n d) (bytes_from c (dw I) 0 n d') d d' (refl, (refl, (refl, (refl, (refl, tt))))) (same_from_first c (dw I) n d d'))

  pub same_report : report_of I ≡ report_of I'
  same_report =
      let n = length src / sw I in
      ap (λ (r : Answer). report r n (dw I) (destination_of I)) same_answer
      ∙ ap (λ (z : List ℕ). first_line (number_of (answer_of I')) (position_of (answer_of I')) n ++ z) same_shown

-- What a loop over positions keeps: what is done, and the definitions' account of the rest.
use mathlib.Core.Path.{◌≡◌, refl, sym, ap, ap₂, ◌∙◌}
use mathlib.Core.Bool.{Bool, true, false, cond}
use mathlib.Core.List.{List, ◌++◌, append_assoc}
use Prim.Native.Nat.{ℕ, zero, suc, ◌+◌, ◌-◌, ◌*◌, ◌≤◌, ◌<◌}
use native.Mathlib.Nat.{suc-mul}
use native.Mathlib.Omega.{arith}
use lib.ListN.{length, take, drop, length-append, take-append-drop}
use lib.Seq.{take_at, drop_at, drop-drop, length-take-le}
use Rattle.counts.specs.Counts.{count_of}
use Rattle.counts.specs.OneMore.{counted}
use Rattle.counts.specs.declared.Counts.{Counts}
use Rattle.counts.specs.declared.Fared.{Fared}
use Rattle.counts.specs.declared.Fared.TheVariants.{Mapped, Exact, Rounded, Clamped, Wrapped}
use Rattle.bytes_le.specs.Bytes.{to_le}
use Rattle.cast_spec.specs.Chunk.{answer_next, answer_from, bytes_next, bytes_from, converted_of, fared_as, count_below, counts_below, Refuses}
use Rattle.bytes_le.proofs.Sums.{length-to_le}
use Rattle.answers.specs.Outcome.{Answer, Outcome, stored_as}
use Rattle.answers.specs.declared.ElementRefusal.TheVariants.{FloatOutOfRange, NanOrInf, OutOfRange}
use Rattle.std.specs.Prelude.{Err, Ok}

-- the whole run's answer R and bytes W are those that the positions from i to before n give where d stands
pub record Run (o : ℕ → Outcome) (w n : ℕ) (R : Answer) (W : List ℕ) (i : ℕ) (d : List ℕ) : Type 0 where
  pub answer : R ≡ answer_from o i (n - i)
  pub bytes : W ≡ take (i * w) d ++ bytes_from o w i (n - i) (drop (i * w) d)

module _ (o : ℕ → Outcome) (w n : ℕ) (R : Answer) (W : List ℕ) where
  module _ (i : ℕ) (d : List ℕ) (run : Run o w n R W i d) where
    pub done : i ≡ n → ((Ok tt) ≡ R) × (d ≡ W)
    done e =
        let z : n - i ≡ 0 = omega arith in
        (sym (run.answer ∙ ap (answer_from o i) z), sym (run.bytes ∙ ap (λ (k : ℕ). take (i * w) d ++ bytes_from o w i k (drop (i * w) d)) z ∙ take-append-drop (i * w) d))

    module _ (h : i < n) where
      more : n - i ≡ suc (n - suc i)
      more = omega arith

      -- a refusal ends the run, with the destination as it stands
      pub refused : Refuses (o i) → (R ≡ answer_next (o i) i (Ok tt)) × (d ≡ W)
      refused r = (
        run.answer ∙ ap (answer_from o i) more ∙ either (o i) r,
        sym (run.bytes ∙ ap (λ (k : ℕ). take (i * w) d ++ bytes_from o w i k (drop (i * w) d)) more ∙ ap (λ (l : List ℕ). take (i * w) d ++ l) (stays (o i) r) ∙ take-append-drop (i * w) d),
      )
        where
          either : (x : Outcome) → Refuses x → answer_next x i (answer_from o (suc i) (n - suc i)) ≡ answer_next x i (Ok tt)
          either (Ok s) r = absurd r
          either (Err (NanOrInf v)) r = refl
          either (Err (OutOfRange v lo hi)) r = refl
          either (Err (FloatOutOfRange v lo hi)) r = refl

          stays : (x : Outcome) → Refuses x → bytes_next x w (drop (i * w) d) (bytes_from o w (suc i) (n - suc i) (drop w (drop (i * w) d))) ≡ drop (i * w) d
          stays (Ok s) r = absurd r
          stays (Err (NanOrInf v)) r = refl
          stays (Err (OutOfRange v lo hi)) r = refl
          stays (Err (FloatOutOfRange v lo hi)) r = refl

      -- a stored element moves it on
      pub kept : (b : ℕ) (f : Fared) (d' : List ℕ) → o i ≡ stored_as b f → i * w + w ≤ length d → d' ≡ take (i * w) d ++ (to_le w b ++ drop w (drop (i * w) d)) → Run o w n R W (suc i) d'
      kept b f d' e room is =
          let P = take (i * w) d in
          let B = to_le w b in
          let rest = drop (i * w + w) d in
          let long : length (P ++ B) ≡ suc i * w =
          length-append P B ∙ ap₂ (λ (x y : ℕ). x + y) (length-take-le (i * w) d (omega arith)) (length-to_le w b) ∙ sym (suc-mul i w) in
          let split : d' ≡ (P ++ B) ++ rest = is ∙ sym (append_assoc P B (drop w (drop (i * w) d))) ∙ ap (λ (z : List ℕ). (P ++ B) ++ z) (drop-drop w (i * w) d) in
          let front : take (suc i * w) d' ≡ P ++ B = ap (take (suc i * w)) split ∙ take_at (P ++ B) rest (suc i * w) long in
          let back : drop (suc i * w) d' ≡ rest = ap (drop (suc i * w)) split ∙ drop_at (P ++ B) rest (suc i * w) long in record {
            answer = run.answer ∙ ap (answer_from o i) more ∙ ap (λ (x : Outcome). answer_next x i (answer_from o (suc i) (n - suc i))) e;
            bytes = run.bytes
                ∙ ap (λ (k : ℕ). P ++ bytes_from o w i k (drop (i * w) d)) more
                ∙ ap (λ (x : Outcome). P ++ bytes_next x w (drop (i * w) d) (bytes_from o w (suc i) (n - suc i) (drop w (drop (i * w) d)))) e
                ∙ ap (λ (z : List ℕ). P ++ (B ++ bytes_from o w (suc i) (n - suc i) z)) (drop-drop w (i * w) d)
                ∙ sym (append_assoc P B (bytes_from o w (suc i) (n - suc i) rest))
                ∙ ap₂ (λ (x y : List ℕ). x ++ bytes_from o w (suc i) (n - suc i) y) (sym front) (sym back);
          }

-- ---- the counts of what is done
pub one_more : (o : ℕ → Outcome) (n b : ℕ) (f : Fared) → o n ≡ stored_as b f → counted f (counts_below o n) ≡ counts_below o (suc n)
one_more o n b f e = go f ∙ ap (λ (x : Outcome). after x) (sym e)
  where
    next : Fared → Outcome → ℕ
    next g x = cond (fared_as g x) (suc (count_below o g n)) (count_below o g n)

    after : Outcome → Counts
    after x = record { mapped = next Mapped x; exact = next Exact x; rounded = next Rounded x; clamped = next Clamped x; wrapped = next Wrapped x }

    go : (f : Fared) → counted f (counts_below o n) ≡ after (stored_as b f)
    go Mapped = refl
    go Exact = refl
    go Rounded = refl
    go Clamped = refl
    go Wrapped = refl

below_le : (o : ℕ → Outcome) (f : Fared) (n : ℕ) → count_below o f n ≤ n
below_le o f zero = omega arith
below_le o f (suc n) = go (fared_as f (o n)) (below_le o f n)
  where
    go : (b : Bool) → count_below o f n ≤ n → cond b (suc (count_below o f n)) (count_below o f n) ≤ suc n
    go true h = omega arith
    go false h = omega arith

pub count_le : (o : ℕ → Outcome) (f : Fared) (n : ℕ) → count_of f (counts_below o n) ≤ n
count_le o Mapped n = below_le o Mapped n
count_le o Exact n = below_le o Exact n
count_le o Rounded n = below_le o Rounded n
count_le o Clamped n = below_le o Clamped n
count_le o Wrapped n = below_le o Wrapped n

-- a refusal at i leaves i converted
pub refused_converted : (n i : ℕ) (x : Outcome) → Refuses x → converted_of n (answer_next x i (Ok tt)) ≡ i
refused_converted n i (Ok s) r = absurd r
refused_converted n i (Err (NanOrInf v)) r = refl
refused_converted n i (Err (OutOfRange v lo hi)) r = refl
refused_converted n i (Err (FloatOutOfRange v lo hi)) r = refl

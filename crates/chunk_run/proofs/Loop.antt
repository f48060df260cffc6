-- The loop of a run: what holds at each position, and how a turn keeps it.
use Rattle.answers.specs.declared.Stored.{Stored}
use mathlib.Core.Path.{◌≡◌, refl, sym, ap, subst, ◌∙◌}
use mathlib.Core.List.{List, ◌++◌}
use Prim.Native.Nat.{ℕ, ◌+◌, ◌-◌, ◌*◌, ◌^◌, ◌≤◌, ◌<◌}
use native.Mathlib.Nat.{sub-zero, zero-mul}
use native.Mathlib.Numerals.{add-one}
use native.Mathlib.Omega.{arith}
use lib.ListN.{length-append, length-drop, length-set, length-take, length, take, drop}
use lib.Seq.{drop-drop}
use Rattle.cast_spec.specs.Element.{outcome_of}
use Rattle.chunk_element.specs.declared.Settings.{Settings}
use Rattle.cast_spec.proofs.Runs.{Run, one_more, count_le, refused_converted}
use Rattle.counts.specs.Counts.{place_of, count_of}
use Rattle.tallies.specs.Tally.{counts_in, no_tally, one_more_at, CountableAt}
use Rattle.counts.specs.OneMore.{counted}
use Rattle.tallies.proofs.Tallies as tallies
use Rattle.counts.specs.declared.Counts.{Counts}
use Rattle.answers.specs.declared.Reply.{Reply}
use Rattle.chunk_element.specs.Settings.{settings_for}
use Rattle.chunk_element.specs.Place.{FitReady, refused_answer}
use Rattle.replies.specs.Reply.{reply_of}
use Rattle.chunk_run.specs.Run.{RunReady, Ran, outcomes}
use Rattle.cast_spec.specs.Fit.{fit_of}
use Rattle.cast_spec.specs.Chunk.{answer_from, answer_next, bytes_from, converted_of, counts_below, Refuses}
use Rattle.bytes_le.specs.Bytes.{from_le, Place, pattern_at, to_le, put}
use Rattle.bytes_le.proofs.Sums.{length-to_le}
use Rattle.bytes_le.proofs.Widths.{element_within}
use Rattle.cast_spec.proofs.Outcomes.{stored_pattern}
use Rattle.chunk_element.proofs.Elements.{refused_is, target_place}
use Rattle.cast_spec.specs.Element as E
use Rattle.cast_spec.proofs.Runs as runs
use Rattle.answers.specs.Outcome.{Answer, Fit, Outcome, stored_as}
use Rattle.answers.specs.declared.ElementRefusal.TheVariants.{FloatOutOfRange, NanOrInf, OutOfRange}
use Rattle.std.specs.Prelude.{Err, Ok}

-- an outcome of whose fit nothing is stored refuses
pub unstored : (o : Outcome) (r : Fit) → r ≡ fit_of o → ((s : Stored) → r ≡ Ok s → ⊥) → Refuses o
unstored (Ok s) r e apart = absurd (apart s e)
unstored (Err (NanOrInf v)) r e apart = tt
unstored (Err (OutOfRange v lo hi)) r e apart = tt
unstored (Err (FloatOutOfRange v lo hi)) r e apart = tt

module _ (S : E.Settings) (sw dw : ℕ) (src dst₀ : List ℕ) (n : ℕ) where
  abbrev o : ℕ → Outcome
  o = outcomes S sw src

  abbrev pub final_answer : Answer
  final_answer = answer_from (outcomes S sw src) 0 n

  abbrev pub final_bytes : List ℕ
  final_bytes = bytes_from (outcomes S sw src) dw 0 n dst₀

  -- before the position i, at the places x of the source and y of the destination dst; the tally t lacks the last element before i, which counts at the place k
  pub record At (i x y : ℕ) (dst t : List ℕ) (k : ℕ) : Type 0 where
    pub order : i ≤ n
    pub source : x ≡ i * sw
    pub target : y ≡ i * dw
    pub same : length dst ≡ length dst₀
    pub countable : CountableAt k t
    pub counts : counts_in (one_more_at k t) ≡ counts_below (outcomes S sw src) i
    pub run : Run (outcomes S sw src) dw n final_answer final_bytes i dst

  pub starts : (t : List ℕ) → t ≡ no_tally → At 0 0 0 dst₀ t 5
  starts t none = record {
    order = omega arith;
    source = sym (zero-mul sw);
    target = sym (zero-mul dw);
    same = refl;
    countable = subst (CountableAt 5) (sym none) (record { six = refl; place = omega arith; room = omega arith });
    counts = ap (λ (z : List ℕ). counts_in (one_more_at 5 z)) none;
    run = record {
      answer = ap (answer_from o 0) (sym (sub-zero n));
      bytes = ap (λ (k : ℕ). bytes_from o dw 0 k dst₀) (sym (sub-zero n)) ∙ ap (λ (z : ℕ). take z dst₀ ++ bytes_from o dw 0 (n - 0) (drop z dst₀)) (sym (zero-mul dw));
    };
  }

  -- t' is the tally with that element
  module _ (i x y : ℕ) (dst t : List ℕ) (k : ℕ) (at : At i x y dst t k) (t' : List ℕ) (all : t' ≡ one_more_at k t) where
    counted_below : counts_in t' ≡ counts_below (outcomes S sw src) i
    counted_below = ap counts_in all ∙ at.counts

    -- so many are counted as the answer says are converted
    counts_of_lem : (r : Answer) → converted_of n r ≡ i → counts_in t' ≡ counts_below (outcomes S sw src) (converted_of n r)
    counts_of_lem r e = counted_below ∙ ap (counts_below o) (sym e)

    pub ends : n ≤ i → (r : Reply) → r ≡ reply_of (Ok tt) (counts_in t') → Ran S sw dw src dst₀ n r dst
    ends h r is =
        let e : i ≡ n = omega (arith, at.order) in
        let d = runs.done o dw n final_answer final_bytes i dst at.run e in
        subst (λ (q : Reply). Ran S sw dw src dst₀ n q dst) (sym is) (record { answer = d.0; counts = counts_of_lem (Ok tt) (sym e); bytes = d.1 })

    -- the element at i has the fit r
    -- the element at i has the fit r
    module _ (more : i < n) (r : Fit) (is_fit : r ≡ fit_of (outcome_of S (from_le (take sw (drop x src))))) where
      pub fit_is : r ≡ fit_of (outcomes S sw src i)
      fit_is = is_fit ∙ ap (λ (z : ℕ). fit_of (outcome_of S (from_le (take sw (drop z src))))) at.source

      pub stops : Refuses (outcomes S sw src i) → (a : Answer) → a ≡ answer_next (outcomes S sw src i) i (Ok tt) → (q : Reply) → q ≡ reply_of a (counts_in t') → Ran S sw dw src dst₀ n q dst
      stops f a e q is =
          let g = runs.refused o dw n final_answer final_bytes i dst at.run more f in
          subst (λ (q : Reply). Ran S sw dw src dst₀ n q dst) (sym is) (record { answer = e ∙ sym g.0; counts = counts_of_lem a (ap (converted_of n) e ∙ refused_converted n i (outcomes S sw src i) f); bytes = g.1 })

    -- b is put at its place
    module _ (more : i < n) (room : n * dw ≤ length dst₀) (s : Stored) (e : Ok s ≡ fit_of (outcome_of S (from_le (take sw (drop x src))))) (dst' : List ℕ) (stored : dst' ≡ put dst y dw s.pattern) where
      within : i * dw + dw ≤ length dst
      within = subst (λ (z : ℕ). i * dw + dw ≤ z) (sym at.same) (element_within dw n i room more)

      stored_at : dst' ≡ take (i * dw) dst ++ (to_le dw s.pattern ++ drop dw (drop (i * dw) dst))
      stored_at = stored ∙ ap (λ (z : ℕ). put dst z dw s.pattern) at.target ∙ ap (λ (l : List ℕ). take (i * dw) dst ++ (to_le dw s.pattern ++ l)) (sym (drop-drop dw (i * dw) dst))

      same_after : length dst' ≡ length dst
      same_after = ap length stored_at ∙ simp (length-append, length-take, length-to_le, length-drop) (omega (arith, within))

      pub goes_on : n < 2 ^ 64 → (k' : ℕ) → k' ≡ place_of s.fared → At (i + 1) (x + sw) (y + dw) dst' t' k'
      goes_on few k' placed = record {
        order = omega arith;
        source = ap (λ (z : ℕ). z + sw) at.source ∙ next i sw;
        target = ap (λ (z : ℕ). z + dw) at.target ∙ next i dw;
        same = same_after ∙ at.same;
        countable = subst (λ (z : ℕ). CountableAt z t') (sym placed) (tallies.countable_at s.fared t' six room_after);
        counts = ap (λ (z : ℕ). counts_in (one_more_at z t')) placed ∙ tallies.one_more s.fared t' six ∙ ap (counted s.fared) counted_below ∙ one_more o i s.pattern s.fared is ∙ ap (counts_below o) (sym (add-one i));
        run = rw add-one (runs.kept o dw n final_answer final_bytes i dst at.run more s.pattern s.fared dst' is within stored_at);
      }
        where
          next : (i w : ℕ) → i * w + w ≡ (i + 1) * w
          next i w = omega arith

          is : outcomes S sw src i ≡ stored_as s.pattern s.fared
          is = stored_pattern (outcomes S sw src i) s.pattern s.fared (sym (fit_is more (Ok s) e))

          six : length t' ≡ 6
          six = ap length all ∙ length-set t k _ ∙ at.countable.six

          -- a count is at most the elements that are done
          room_after : count_of s.fared (counts_in t') + 1 < 2 ^ 64
          room_after = subst (λ (z : Counts). count_of s.fared z + 1 < 2 ^ 64) (sym counted_below) (omega (arith, count_le o s.fared i))

-- ---- what a turn asks, and that the places stay in the slices
module _ (s : Settings) (keys targets src dst₀ : List ℕ) (n : ℕ) (ask : RunReady s keys targets src dst₀ n) (i x y : ℕ) (dst t : List ℕ) (k : ℕ) (at : At (settings_for s keys targets) s.sw s.dw src dst₀ n i x y dst t k) (more : i < n) where
  pub source_end : x + s.sw ≤ length src
  source_end = subst (λ (z : ℕ). z + s.sw ≤ length src) (sym at.source) (element_within s.sw n i ask.source more)

  pub target_end : y + s.dw ≤ length dst
  target_end = subst (λ (z : ℕ). z + s.dw ≤ length dst) (sym at.target) (subst (λ (z : ℕ). i * s.dw + s.dw ≤ z) (sym at.same) (element_within s.dw n i ask.target more))

  pub turn_asks : FitReady s keys targets src x
  turn_asks = record { map = ask.map; within = source_end }

  pub store_asks : Place dst y s.dw
  store_asks = target_place s ask.map.ready dst y target_end

  -- the answer to a refusal here is that of its outcome
  pub refused_answer_lem : (r : Fit) → r ≡ fit_of (outcomes (settings_for s keys targets) s.sw src i) → refused_answer s (from_le (take s.sw (drop x src))) i r ≡ answer_next (outcomes (settings_for s keys targets) s.sw src i) i (Ok tt)
  refused_answer_lem r f = ap (λ (z : ℕ). refused_answer s (from_le (take s.sw (drop z src))) i r) at.source ∙ refused_is s ask.map.ready keys targets (pattern_at s.sw src i) i r f

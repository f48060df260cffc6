-- The loop of a preview is that of a run over a copy of the destination, which no program holds: what holds at each position, and how a turn keeps it.
use native.Mathlib.Nat.{zero-mul}
use Rattle.cast_spec.specs.Fit.{fit_of}
use native.Mathlib.Omega.{arith}
use Rattle.answers.specs.declared.Stored.{Stored}
use mathlib.Core.Path.{◌≡◌, refl, sym, ap₂, subst, ◌∙◌}
use mathlib.Core.List.{List}
use Prim.Native.Nat.{ℕ, ◌+◌, ◌*◌, ◌^◌, ◌≤◌, ◌<◌}
use lib.ListN.{length, take, drop}
use Rattle.bytes_le.specs.Bytes.{to_le, put}
use Rattle.counts.specs.Counts.{place_of}
use Rattle.tallies.specs.Tally.{counts_in, no_tally, one_more_at}
use Rattle.hamming.specs.Distance.{distance}
use Rattle.hamming.proofs.Distances.{same_0, at_most_front}
use Rattle.hamming.proofs.Bytes.{put_adds, still_behind}
use Rattle.answers.specs.declared.Reply.{Reply}
use Rattle.cast_spec.specs.Chunk.{answer_next, Refuses}
use Rattle.cast_spec.specs.Element as E
use Rattle.cast_spec.specs.Element.{outcome_of}
use Rattle.cast_spec.specs.Fit.{fit_of}
use Rattle.replies.specs.Reply.{reply_of}
use Rattle.chunk_run.specs.Run.{outcomes}
use Rattle.chunk_run.proofs.Loop as loop
use Rattle.chunk_preview.specs.Foreseen.{Foreseen}
use Rattle.answers.specs.Outcome.{Answer}
use Rattle.std.specs.Prelude.{Ok}

module _ (S : E.Settings) (sw dw : ℕ) (src dst : List ℕ) (n : ℕ) where
  -- before the position i, as `At` of a run, where c bytes of the copy differ from the destination, and none from that of i on
  pub record Ahead (i c : ℕ) (t : List ℕ) (k : ℕ) : Type 0 where
    pub copy : List ℕ
    pub at : loop.At S sw dw src dst n i (i * sw) (i * dw) copy t k
    pub rest : drop (i * dw) copy ≡ drop (i * dw) dst
    pub changed : c ≡ distance dst copy

  pub starts : (t : List ℕ) → t ≡ no_tally → Ahead 0 0 t 5
  starts t none = record { copy = dst; at = subst (λ (x : ℕ). loop.At S sw dw src dst n 0 x (0 * dw) dst t 5) (sym (zero-mul sw)) (subst (λ (y : ℕ). loop.At S sw dw src dst n 0 0 y dst t 5) (sym (zero-mul dw)) (loop.starts S sw dw src dst n t none)); rest = refl; changed = sym (same_0 dst) }

  module _ (i c : ℕ) (t : List ℕ) (k : ℕ) (ahead : Ahead i c t k) where
    pub at_most_done : c ≤ i * dw
    at_most_done = subst (λ (m : ℕ). m ≤ i * dw) (sym ahead.changed) (at_most_front (i * dw) dst ahead.copy (sym ahead.at.same) (sym ahead.rest))

    -- t' is the tally with the last element
    module _ (t' : List ℕ) (all : t' ≡ one_more_at k t) where
      pub ends : n ≤ i → (r : Reply) → r ≡ reply_of (Ok tt) (counts_in t') → Foreseen S sw dw src dst n (record { reply = r; changed = c })
      ends h r is = record { copy = ahead.copy; ran = loop.ends S sw dw src dst n i (i * sw) (i * dw) ahead.copy t k ahead.at t' all h r is; changed = ahead.changed }

      module _ (more : i < n) where
        pub stops : Refuses (outcomes S sw src i) → (a : Answer) → a ≡ answer_next (outcomes S sw src i) i (Ok tt) → (q : Reply) → q ≡ reply_of a (counts_in t') → Foreseen S sw dw src dst n (record { reply = q; changed = c })
        stops f a e q is = record { copy = ahead.copy; ran = loop.stops S sw dw src dst n i (i * sw) (i * dw) ahead.copy t k ahead.at t' all more (fit_of (outcomes S sw src i)) refl f a e q is; changed = ahead.changed }

        pub goes_on : n * dw ≤ length dst → (s : Stored) → Ok s ≡ fit_of (outcomes S sw src i) → n < 2 ^ 64 → i * dw + dw ≤ length dst → (g : ℕ) → g ≡ distance (take dw (drop (i * dw) dst)) (to_le dw s.pattern) → (k' : ℕ) → k' ≡ place_of s.fared → Ahead (i + 1) (c + g) t' k'
        goes_on room s e few end g is k' placed = record {
          copy = put ahead.copy (i * dw) dw s.pattern;
          at = subst (λ (x : ℕ). loop.At S sw dw src dst n (i + 1) x ((i + 1) * dw) (put ahead.copy (i * dw) dw s.pattern) t' k') (next i sw) (subst (λ (y : ℕ). loop.At S sw dw src dst n (i + 1) (i * sw + sw) y (put ahead.copy (i * dw) dw s.pattern) t' k') (next i dw) (loop.goes_on S sw dw src dst n i (i * sw) (i * dw) ahead.copy t k ahead.at t' all more room s e (put ahead.copy (i * dw) dw s.pattern) refl few k' placed));
          rest = subst (λ (z : ℕ). drop z (put ahead.copy (i * dw) dw s.pattern) ≡ drop z dst) (next i dw) (still_behind dst ahead.copy (i * dw) dw s.pattern ahead.at.same end ahead.rest);
          changed = ap₂ (λ (m j : ℕ). m + j) ahead.changed is ∙ put_adds dst ahead.copy (i * dw) dw s.pattern ahead.at.same end ahead.rest;
        }
          where
            next : (i w : ℕ) → i * w + w ≡ (i + 1) * w
            next i w = omega arith

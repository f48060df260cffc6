-- A call that a check refuses meets the contract with that refusal and no counts, and with the destination as it was.
use mathlib.Core.Path.{◌≡◌, refl, sym, ap, ◌∙◌}
use mathlib.Core.Bool.{Bool, true, false, ◌&&◌, cond, true≢false}
use mathlib.Core.List.{List, [], ◌∷◌}
use Prim.Native.Nat.{◌/◌}
use lib.ListN.{length}
use borrow.Author.Tests.{ne_eqb}
use Rattle.answers.specs.Answer.{unconverted}
use Rattle.answers.specs.declared.Refusal.TheVariants as A
use Rattle.cast_spec.specs.Chunk.{Inputs, sw, dw, codes_listed, wrap_permitted, map_whole, bytes_whole, Check, checks_of, all_pass, tested, call_of, outcome_at, answer_of, counts_of, converted_of, counts_below}
use Rattle.cast_spec.specs.Contract.{Contract}
use Rattle.cast_spec.proofs.Checks.{tested_by, not_passed}
use Rattle.cast_spec.proofs.Contract.{contract}
use Rattle.answers.specs.Outcome.{Answer}
use Rattle.std.specs.Prelude.{Err, Ok}

-- where a check fails, the elements' answer plays no part
tested_fail : (cs : List Check) (x y : Answer) → all_pass cs ≡ false → tested cs x ≡ tested cs y
tested_fail [] x y e = absurd (true≢false e)
tested_fail (c ∷ cs) x y e = go c.passes (tested_fail cs x y) e
  where
    go : (b : Bool) → (all_pass cs ≡ false → tested cs x ≡ tested cs y) → b && all_pass cs ≡ false → cond b (tested cs x) (Err c.refusal) ≡ cond b (tested cs y) (Err c.refusal)
    go true f e = f e
    go false f e = refl

-- the checks refuse the call, by this answer
abbrev pub RefusedBy : Inputs → Answer → Type 0
RefusedBy I a = (all_pass (checks_of I) ≡ false) × (tested (checks_of I) (Ok tt) ≡ a)

module _ (I : Inputs) where
  none_converted : all_pass (checks_of I) ≡ false → converted_of (call_of I).count (answer_of I) ≡ 0
  unfolding answer_of
  none_converted fails = tested_by (λ (a : Answer). converted_of (call_of I).count a ≡ 0) (checks_of I) _ (refl, (refl, (refl, (refl, (refl, tt))))) (λ all. absurd (true≢false (sym all ∙ fails)))

  pub refused_meets : (a : Answer) → RefusedBy I a → Contract I (unconverted a) I.destination
  unfolding answer_of counts_of call_of
  refused_meets a r = contract I (unconverted a) I.destination (sym r.1 ∙ tested_fail (checks_of I) (Ok tt) _ r.0) (ap (counts_below (outcome_at (call_of I))) (sym (none_converted r.0))) (sym (not_passed I r.0))

  -- ---- where the checks lead to each
  pub unknown : codes_listed I ≡ false → RefusedBy I (Err A.UnknownCode)
  unknown a = (simp a, simp a)

  module _ (a : codes_listed I ≡ true) where
    pub barred_wrap : wrap_permitted I ≡ false → RefusedBy I (Err A.BarredWrap)
    barred_wrap w = (simp (a, w), simp (a, w))

    module _ (w : wrap_permitted I ≡ true) where
      pub broken_map : map_whole I ≡ false → RefusedBy I (Err A.BrokenMap)
      broken_map b = (simp (a, w, b), simp (a, w, b))

      module _ (b : map_whole I ≡ true) where
        pub broken_element : bytes_whole I ≡ false → RefusedBy I (Err A.BrokenElement)
        broken_element c = (simp (a, w, b, c), simp (a, w, b, c))

        pub mismatch : bytes_whole I ≡ true → (length I.source / sw I ≡ length I.destination / dw I → ⊥) → RefusedBy I (Err (A.LengthMismatch (length I.source / sw I) (length I.destination / dw I)))
        mismatch c n = let d = ne_eqb (length I.source / sw I) (length I.destination / dw I) n in (simp (a, w, b, c, d), simp (a, w, b, c, d))

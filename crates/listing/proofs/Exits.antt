-- An input that is refused has the refusal's line as its listing, and any other the report of its call on the parts as the program cuts them.
use mathlib.Core.Path.{◌≡◌, refl, sym, ap, ap₂, subst, ◌∙◌}
use mathlib.Core.Bool.{true, false, true≢false, false≢true}
use mathlib.Core.List.{List}
use Rattle.std.specs.Prelude.{Ok, Err, is_err}
use Rattle.answers.specs.Answer.{number_of}
use Rattle.answers.specs.Outcome.{Answer}
use Rattle.answers.specs.declared.Refusal.TheVariants.{UnknownCode, BrokenMap, BrokenElement, LengthMismatch, NanOrInf, OutOfRange, FloatOutOfRange, BarredWrap}
use Prim.Native.Nat.{ℕ, ◌-◌, ◌*◌, ◌≤◌}
use native.Mathlib.Nat.{add-sub_cancel_left}
use native.Mathlib.Omega.{arith}
use lib.ListN.{length, get_or, take, drop, length-drop}
use borrow.Author.Tests.{eq-eqb, ne_eqb}
use borrow.Author.Rules.{part_to_end}
use Rattle.patterns.specs.Kind.{width}
use Rattle.kinds.specs.Table.{kind_of}
use Rattle.report.specs.Report.{refused_line}
use Rattle.listing_input.specs.declared.Layout.{Layout}
use Rattle.listing_input.specs.Input.{entries, keys_end, map_end, elements, call, chunk_of, refusal_of}
use Rattle.listing_input.specs.Layouts.{layout_of}
use Rattle.listing_input.proofs.Exits.{taken_head, there, most}
use Rattle.listing.specs.Listing.{report_of, listing_of}
use Rattle.listing.specs.Room.{CallFits}

module _ (s : List ℕ) (z : refusal_of s ≡ 0) where
  called : report_of (call s) ≡ listing_of s
  unfolding listing_of
  called = sym (simp (eq-eqb (refusal_of s) 0 z))

  module _ (l : Layout) (laid : l ≡ layout_of s) where
    ends : l.elements ≡ map_end s
    ends = ap (λ (z : Layout). z.elements) laid

    starts : l.targets ≡ keys_end s
    starts = ap (λ (z : Layout). z.targets) laid

    pub elements_within : l.elements ≤ length s
    elements_within = subst (λ (z : ℕ). z ≤ length s) (sym ends) (there s z)

    pub six_first : 6 ≤ l.targets
    six_first = omega (arith, starts)

    pub targets_first : l.targets ≤ l.elements
    targets_first = omega (arith, starts, ends)

    pub call_asks : (work out : List ℕ) → 65488 ≤ length work → 139180 ≤ length out → CallFits (take (length s - l.elements) (drop l.elements s)) (get_or s 0 0) (get_or s 1 0) work out
    call_asks work out h k = record {
      from_listed = (taken_head s z).from;
      to_listed = (taken_head s z).to;
      source_fits = rw (part_to_end s l.elements, length-drop) (omega (arith, six_first, targets_first, most s z));
      work_fits = h;
      report_fits = k;
    }

    -- the parts of the input, as the program cuts them
    abbrev cut : Layout → List ℕ
    cut z = report_of (chunk_of (take (length s - z.elements) (drop z.elements s)) (take (z.targets - 6) (drop 6 s)) (take (z.elements - z.targets) (drop z.targets s)) (get_or s 0 0) (get_or s 1 0) (get_or s 2 0) (get_or s 3 0))

    pub call_listed : cut l ≡ listing_of s
    call_listed =
        ap cut laid
        ∙ ap (λ (z : List ℕ). report_of (chunk_of z (take (keys_end s - 6) (drop 6 s)) (take (map_end s - keys_end s) (drop (keys_end s) s)) (get_or s 0 0) (get_or s 1 0) (get_or s 2 0) (get_or s 3 0))) (part_to_end s (map_end s))
        ∙ ap₂ (λ (p q : ℕ). report_of (chunk_of (elements s) (take p (drop 6 s)) (take q (drop (keys_end s) s)) (get_or s 0 0) (get_or s 1 0) (get_or s 2 0) (get_or s 3 0))) (add-sub_cancel_left 6 (entries s * width (kind_of (get_or s 0 0)))) (add-sub_cancel_left (keys_end s) (entries s * width (kind_of (get_or s 1 0))))
        ∙ called

-- ---- what a refusal tells
module _ (s : List ℕ) (number : ℕ) (is : number ≡ refusal_of s) where
  pub refusal_listed : (number ≡ 0 → ⊥) → refused_line number 0 ≡ listing_of s
  unfolding listing_of
  refusal_listed h = ap (λ (z : ℕ). refused_line z 0) is ∙ sym (simp (ne_eqb (refusal_of s) 0 (λ (e : refusal_of s ≡ 0). h (is ∙ e))))

-- ---- what the program tells of a check
pub accepted_number : (r : Answer) → false ≡ is_err r → number_of r ≡ 0
accepted_number (Ok all) e = refl
accepted_number (Err UnknownCode) e = absurd (false≢true e)
accepted_number (Err BrokenMap) e = absurd (false≢true e)
accepted_number (Err BrokenElement) e = absurd (false≢true e)
accepted_number (Err (LengthMismatch s d)) e = absurd (false≢true e)
accepted_number (Err (NanOrInf i v)) e = absurd (false≢true e)
accepted_number (Err (OutOfRange i v lo hi)) e = absurd (false≢true e)
accepted_number (Err (FloatOutOfRange i v lo hi)) e = absurd (false≢true e)
accepted_number (Err BarredWrap) e = absurd (false≢true e)

pub error_number : (r : Answer) → true ≡ is_err r → number_of r ≡ 0 → ⊥
error_number (Ok all) e z = absurd (true≢false e)
error_number (Err UnknownCode) e z = omega arith
error_number (Err BrokenMap) e z = omega arith
error_number (Err BrokenElement) e z = omega arith
error_number (Err (LengthMismatch s d)) e z = omega arith
error_number (Err (NanOrInf i v)) e z = omega arith
error_number (Err (OutOfRange i v lo hi)) e z = omega arith
error_number (Err (FloatOutOfRange i v lo hi)) e z = omega arith
error_number (Err BarredWrap) e z = omega arith

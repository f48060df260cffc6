-- The first line and the lines after it make the report, and there is room for them.
use mathlib.Core.Path.{◌≡◌, refl, sym, subst}
use mathlib.Core.Bool.{Bool, true, false, cond}
use mathlib.Core.List.{List, [], ◌++◌}
use Prim.Native.Nat.{ℕ, ◌+◌, ◌*◌, ◌≤◌, ◌<◌}
use native.Mathlib.Nat.{le_refl, le_trans, mul-le-mul_right}
use native.Mathlib.Omega.{arith}
use lib.Dec.{eqb}
use lib.ListN.{length, length-append}
use borrow.Author.Tests.{eq-eqb, ne_eqb}
use Rattle.answers.specs.Answer.{number_of, names_position, named_position, position_of}
use Rattle.text.specs.Text.{decimal}
use Rattle.text.specs.Wrote.{Wrote}
use Rattle.report.specs.Report.{refused, at, newline, ok_line, refused_line, lines, report}
use Rattle.report.specs.Room.{LinesFit, ReportFits}
use Rattle.text.proofs.Writes.{wrote_length, wrote_then}
use Rattle.text.proofs.Numbers.{decimal_short, decimal_one}
use Rattle.answers.specs.Outcome.{Answer}
use Rattle.answers.specs.declared.Refusal.TheVariants.{BarredWrap, BrokenElement, BrokenMap, FloatOutOfRange, LengthMismatch, NanOrInf, OutOfRange, UnknownCode}
use Rattle.std.specs.Prelude.{Err, Ok, is_ok, unwrap_or}
use mathlib.Core.Bool.{true≢false}

-- ---- the first lines' lengths
ok_short : (n : ℕ) → n < 10000 → length (ok_line n) ≤ 8
ok_short n h = omega (arith, length-append (decimal n) newline, decimal_short n h)

refused_short : (number position : ℕ) → number < 10 → position < 10000 → length (refused_line number position) ≤ 18
refused_short number position h l = go (names_position number)
  where
    go : (t : Bool) → length (refused ++ (decimal number ++ (cond t (at ++ decimal position) [] ++ newline))) ≤ 18
    go true = omega (arith, length-append (decimal number) ((at ++ decimal position) ++ newline), decimal_one number h, length-append (decimal position) newline, decimal_short position l)
    go false = omega (arith, length-append (decimal number) newline, decimal_one number h)

pub number_small : (r : Answer) → number_of r < 10
number_small (Ok all) = omega arith
number_small (Err UnknownCode) = omega arith
number_small (Err BrokenMap) = omega arith
number_small (Err BrokenElement) = omega arith
number_small (Err (LengthMismatch s d)) = omega arith
number_small (Err (NanOrInf i v)) = omega arith
number_small (Err (OutOfRange i v lo hi)) = omega arith
number_small (Err (FloatOutOfRange i v lo hi)) = omega arith
number_small (Err BarredWrap) = omega arith

-- ---- what the program tells of an answer
pub converted_number : (r : Answer) → true ≡ is_ok r → number_of r ≡ 0
converted_number (Ok all) e = refl
converted_number (Err UnknownCode) e = absurd (true≢false e)
converted_number (Err BrokenMap) e = absurd (true≢false e)
converted_number (Err BrokenElement) e = absurd (true≢false e)
converted_number (Err (LengthMismatch s d)) e = absurd (true≢false e)
converted_number (Err (NanOrInf i v)) e = absurd (true≢false e)
converted_number (Err (OutOfRange i v lo hi)) e = absurd (true≢false e)
converted_number (Err (FloatOutOfRange i v lo hi)) e = absurd (true≢false e)
converted_number (Err BarredWrap) e = absurd (true≢false e)

pub refused_number : (r : Answer) → is_ok r ≡ false → number_of r ≡ 0 → ⊥
refused_number (Ok all) e z = absurd (true≢false e)
refused_number (Err UnknownCode) e z = omega arith
refused_number (Err BrokenMap) e z = omega arith
refused_number (Err BrokenElement) e z = omega arith
refused_number (Err (LengthMismatch s d)) e z = omega arith
refused_number (Err (NanOrInf i v)) e z = omega arith
refused_number (Err (OutOfRange i v lo hi)) e z = omega arith
refused_number (Err (FloatOutOfRange i v lo hi)) e z = omega arith
refused_number (Err BarredWrap) e z = omega arith

pub position_told : (r : Answer) → unwrap_or (named_position r) 0 ≡ position_of r
position_told (Ok all) = refl
position_told (Err UnknownCode) = refl
position_told (Err BrokenMap) = refl
position_told (Err BrokenElement) = refl
position_told (Err (LengthMismatch s d)) = refl
position_told (Err (NanOrInf i v)) = refl
position_told (Err (OutOfRange i v lo hi)) = refl
position_told (Err (FloatOutOfRange i v lo hi)) = refl
position_told (Err BarredWrap) = refl

module _ (d bytes : List ℕ) (answer : Answer) (n w : ℕ) (ask : ReportFits d bytes answer n w) where
  -- k lines after a first line x
  lines_ask : (x : List ℕ) (k r : ℕ) (d₁ : List ℕ) → Wrote d 0 x r d₁ → length x ≤ 18 → k ≤ n → LinesFit d₁ r bytes w k
  lines_ask x k r d₁ v short h = record {
    width = ask.width;
    whole = le_trans (mul-le-mul_right w h) ask.whole;
    fits = omega (arith, v.next, wrote_length v, ask.fits, mul-le-mul_right (2 * w + 1) h);
  }

  -- the report by the test of the number
  by : (t : Bool) (r : ℕ) (d' : List ℕ) → eqb (number_of answer) 0 ≡ t
      → Wrote d 0 (cond t (ok_line n) (refused_line (number_of answer) (position_of answer)) ++ lines w bytes 0 (cond t n (position_of answer))) r d' → Wrote d 0 (report answer n w bytes) r d'
  by t r d' e v = subst (λ (t : Bool). Wrote d 0 (cond t (ok_line n) (refused_line (number_of answer) (position_of answer)) ++ lines w bytes 0 (cond t n (position_of answer))) r d') (sym e) v

  -- ---- all converted
  module _ (r : ℕ) (d₁ : List ℕ) (v : Wrote d 0 (ok_line n) r d₁) where
    pub ok_lines_ask : LinesFit d₁ r bytes w n
    ok_lines_ask = lines_ask (ok_line n) n r d₁ v (omega (arith, ok_short n ask.below_10000)) (le_refl n)

    pub ok_report : number_of answer ≡ 0 → (q : ℕ) (d₂ : List ℕ) → Wrote d₁ r (lines w bytes 0 n) q d₂ → Wrote d 0 (report answer n w bytes) q d₂
    ok_report z q d₂ u = by true q d₂ (eq-eqb (number_of answer) 0 z) (wrote_then v u)

  -- ---- refused
  module _ (number position : ℕ) (is : number ≡ number_of answer) (lies : position ≡ position_of answer) where
    pub refused_asks : (number < 10) × (position < 10000) × (18 ≤ length d)
    refused_asks = (
      subst (λ (z : ℕ). z < 10) (sym is) (number_small answer),
      omega (arith, ask.position, ask.below_10000),
      omega (arith, ask.fits),
    )

    module _ (r : ℕ) (d₁ : List ℕ) (v : Wrote d 0 (refused_line number position) r d₁) where
      pub refused_lines_ask : LinesFit d₁ r bytes w position
      refused_lines_ask = lines_ask (refused_line number position) position r d₁ v (refused_short number position refused_asks.0 refused_asks.1) (omega (arith, ask.position))

      pub refused_report : (number_of answer ≡ 0 → ⊥) → (q : ℕ) (d₂ : List ℕ) → Wrote d₁ r (lines w bytes 0 position) q d₂ → Wrote d 0 (report answer n w bytes) q d₂
      refused_report z q d₂ u = by false q d₂ (ne_eqb (number_of answer) 0 z)
          (subst (λ (m : ℕ). Wrote d 0 (refused_line m (position_of answer) ++ lines w bytes 0 (position_of answer)) q d₂) is
          (subst (λ (p : ℕ). Wrote d 0 (refused_line number p ++ lines w bytes 0 p) q d₂) lies (wrote_then v u)))

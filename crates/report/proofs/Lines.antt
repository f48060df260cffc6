-- The lines of a report, part by part, and the room that they take.
use mathlib.Core.Path.{◌≡◌, refl, sym, ap, subst, ◌∙◌}
use mathlib.Core.Bool.{Bool, true, false, cond}
use mathlib.Core.List.{List, [], ◌++◌, append_assoc, append-nil}
use Prim.Native.Nat.{ℕ, zero, suc, ◌+◌, ◌*◌, ◌≤◌, ◌<◌}
use native.Mathlib.Nat.{add-zero, le_refl, zero-add}
use native.Mathlib.Numerals.{add-one}
use native.Mathlib.Omega.{arith}
use lib.ListN.{length, take, drop, length-append}
use Rattle.bytes_le.specs.Bytes.{from_le, pattern_at}
use Rattle.bytes_le.proofs.Widths.{element_within}
use Rattle.answers.specs.Answer.{names_position}
use Rattle.text.specs.Text.{digits, decimal}
use Rattle.text.specs.Wrote.{Wrote}
use Rattle.report.specs.Report.{ok, refused, at, newline, ok_line, refused_line, line, lines}
use Rattle.report.specs.Room.{LinesFit, LineFits}
use Rattle.text.proofs.Writes.{wrote_none, wrote_length, wrote_then}
use Rattle.text.proofs.Numbers.{length_digits, decimal_short, decimal_one}

-- ---- first lines
module _ (d : List ℕ) (r : ℕ) (d₁ : List ℕ) (n q : ℕ) (d₂ : List ℕ) where
  pub ok_room : n < 10000 → 8 ≤ length d → Wrote d 0 ok r d₁ → Wrote d₁ r (decimal n) q d₂ → q + 1 ≤ length d₂
  ok_room h room w v = omega (arith, w.next, v.next, wrote_length w, wrote_length v, decimal_short n h)

  pub ok_told : (p : ℕ) (d₃ : List ℕ) → Wrote d 0 ok r d₁ → Wrote d₁ r (decimal n) q d₂ → Wrote d₂ q newline p d₃ → Wrote d 0 (ok_line n) p d₃
  ok_told p d₃ w v u = wrote_then w (wrote_then v u)

module _ (d : List ℕ) (r : ℕ) (d₁ : List ℕ) (number q : ℕ) (d₂ : List ℕ) (small : number < 10) (room : 18 ≤ length d) (w : Wrote d 0 refused r d₁) (v : Wrote d₁ r (decimal number) q d₂) where
  -- nine bytes are written
  pub number_room : q + 9 ≤ length d₂
  number_room = omega (arith, w.next, v.next, wrote_length w, wrote_length v, decimal_one number small)

  module _ (position p : ℕ) (d₃ : List ℕ) where
    pub refused_plain : names_position number ≡ false → Wrote d₂ q newline p d₃ → Wrote d 0 (refused_line number position) p d₃
    refused_plain h u = subst (λ (t : Bool). Wrote d 0 (refused ++ (decimal number ++ (cond t (at ++ decimal position) [] ++ newline))) p d₃) (sym h) (wrote_then w (wrote_then v u))

    module _ (x : Wrote d₂ q at p d₃) (o : ℕ) (d₄ : List ℕ) where
      pub at_room : p + 5 ≤ length d₃
      at_room = omega (arith, number_room, x.next, wrote_length x)

      module _ (few : position < 10000) (y : Wrote d₃ p (decimal position) o d₄) where
        pub position_room : o + 1 ≤ length d₄
        position_room = omega (arith, at_room, y.next, wrote_length y, decimal_short position few)

        pub refused_at : names_position number ≡ true → (m : ℕ) (d₅ : List ℕ) → Wrote d₄ o newline m d₅ → Wrote d 0 (refused_line number position) m d₅
        refused_at h m d₅ u = subst (λ (t : Bool). Wrote d 0 (refused ++ (decimal number ++ (cond t (at ++ decimal position) [] ++ newline))) m d₅) (sym h) (wrote_then w (wrote_then v (wrote_then x (wrote_then y u))))

-- ---- elements
pub length_line : (w v : ℕ) → length (line w v) ≡ 2 * w + 1
length_line w v = length-append (digits 16 (2 * w) v) newline ∙ ap (λ (z : ℕ). z + 1) (length_digits 16 (2 * w) v)

module _ (d : List ℕ) (a w v r : ℕ) (d₁ : List ℕ) where
  pub line_room : a + (2 * w + 1) ≤ length d → Wrote d a (digits 16 (2 * w) v) r d₁ → r + 1 ≤ length d₁
  line_room room x = omega (arith, x.next, wrote_length x, length_digits 16 (2 * w) v)

  pub line_told : (v' p : ℕ) (d₂ : List ℕ) → v ≡ v' → Wrote d a (digits 16 (2 * w) v) r d₁ → Wrote d₁ r newline p d₂ → Wrote d a (line w v') p d₂
  line_told v' p d₂ e x y = subst (λ (z : ℕ). Wrote d a (line w z) p d₂) e (wrote_then x y)

pub length_lines : (w : ℕ) (d : List ℕ) (i k : ℕ) → length (lines w d i k) ≡ k * (2 * w + 1)
length_lines w d i zero = omega arith
length_lines w d i (suc k) =
    length-append (line w (pattern_at w d i)) (lines w d (suc i) k)
    ∙ ap (λ (z : ℕ). z + length (lines w d (suc i) k)) (length_line w (pattern_at w d i))
    ∙ ap (λ (z : ℕ). 2 * w + 1 + z) (length_lines w d (suc i) k)
    ∙ next (2 * w + 1) k
  where
    next : (l k : ℕ) → l + k * l ≡ suc k * l
    next l k = omega arith

-- a line more
pub lines_more : (w : ℕ) (d : List ℕ) (i k : ℕ) → lines w d i k ++ line w (pattern_at w d (i + k)) ≡ lines w d i (suc k)
lines_more w d i zero = ap (λ (z : ℕ). line w (pattern_at w d z)) (add-zero i) ∙ sym (append-nil (line w (pattern_at w d i)))
lines_more w d i (suc k) =
    append_assoc (line w (pattern_at w d i)) (lines w d (suc i) k) (line w (pattern_at w d (i + suc k)))
    ∙ ap (λ (z : ℕ). line w (pattern_at w d i) ++ (lines w d (suc i) k ++ line w (pattern_at w d z))) (shift i k)
    ∙ ap (λ (z : List ℕ). line w (pattern_at w d i) ++ z) (lines_more w d (suc i) k)
  where
    shift : (i k : ℕ) → i + suc k ≡ suc i + k
    shift i k = omega arith

-- the first i lines are written
pub record LinesAt (d : List ℕ) (a : ℕ) (bytes : List ℕ) (w k i to : ℕ) (d' : List ℕ) : Type 0 where
  pub order : i ≤ k
  pub wrote : Wrote d a (lines w bytes 0 i) to d'
  pub same : length d' ≡ length d

module _ (d : List ℕ) (a : ℕ) (bytes : List ℕ) (w k : ℕ) (ask : LinesFit d a bytes w k) where
  pub lines_start : LinesAt d a bytes w k 0 a d
  lines_start = record { order = omega arith; wrote = wrote_none d a (omega (arith, ask.fits)); same = refl }

  module _ (i to : ℕ) (d' : List ℕ) (at : LinesAt d a bytes w k i to d') where
    pub lines_end : k ≤ i → Wrote d a (lines w bytes 0 k) to d'
    lines_end h = let e : i ≡ k = omega (arith, at.order) in subst (λ (z : ℕ). Wrote d a (lines w bytes 0 z) to d') e at.wrote

    module _ (more : i < k) where
      pub element_in : i * w + w ≤ length bytes
      element_in = element_within w k i ask.whole more

      pub line_asks : LineFits d' to bytes (i * w) w
      line_asks = record {
        place = record { width = ask.width; within = element_in };
        fits = room;
      }
        where
          room : to + (2 * w + 1) ≤ length d'
          room = omega (arith, at.same, at.wrote.next, length_lines w bytes 0 i, ask.fits, element_within (2 * w + 1) k i (le_refl (k * (2 * w + 1))) more)

      pub lines_go_on : (r : ℕ) (d'' : List ℕ) → Wrote d' to (line w (from_le (take w (drop (i * w) bytes)))) r d'' → LinesAt d a bytes w k (i + 1) r d''
      lines_go_on r d'' v = record {
        order = omega arith;
        wrote = subst (λ (z : List ℕ). Wrote d a z r d'')
            (ap (λ (z : ℕ). lines w bytes 0 i ++ line w (from_le (take w (drop z bytes)))) (ap (λ (z : ℕ). z * w) (sym (zero-add i))) ∙ lines_more w bytes 0 i ∙ ap (lines w bytes 0) (sym (add-one i)))
            (wrote_then at.wrote v);
        same = wrote_length v ∙ at.same;
      }

-- Demand 3 is not met vacuously: in one mixed chunk an element is picked, one refused, clamped or wrapped, one mapped, and two are compared.
use mathlib.Core.Path.{◌≡◌, refl, ap, subst, ◌∙◌}
use mathlib.Core.Logic.{⊎_elim}
use mathlib.Core.Bool.{false}
use mathlib.Core.List.Memᴰ
use mathlib.Core.List.{Memᴰ}
use Prim.Native.Nat.{ℕ, zero, suc, ◌*◌, ◌^◌, ◌≤◌, ◌<◌}
use native.Mathlib.Omega.{arith}
use lib.Dec.{T, lit<}
use lib.Ieee.{size}
use lib.IntN.{ℤ, pos, nat_abs}
use lib.Signed.{le_z_yes, lt_z_yes}
use Rattle.grid.specs.Grid.{whole}
use Rattle.grid.specs.declared.RoundingMode.TheVariants.{NearestEven}
use Rattle.grid.specs.Round.{pick}
use Rattle.grid.proofs.Picked.{pick_only}
use Rattle.patterns.specs.Float.{bits_mag}
use Rattle.patterns.specs.Value.{Value, nan, inf, num, value_of}
use Rattle.kinds.specs.Table.{kind_of}
use Rattle.codes.specs.Codes.{range_of}
use Rattle.patterns.specs.Kind.{Kind, f64, lowest, highest, InRange}
use Rattle.cast_spec.specs.Element.{Entry, beyond, outcome_of}
use Rattle.patterns.specs.Pattern.{pattern_of}
use Rattle.cast_spec.specs.Chunk.{Call, Reached, settings_of, call_of, outcome_at, Refuses}
use Rattle.cast_spec.specs.Demand3.{Taken, RefusedBy, Kept, Congruent, Handled, ◌≤ᵉ◌, Demand3}
use Rattle.cast_spec.proofs.Samples.{mixed}
use Rattle.cast_spec.proofs.Strength.{one_number}
use Rattle.answers.specs.Outcome.{Answer}

-- 2.5, NaN, -0, 300, 100 to u8, with NaN mapped to 9 and 0 to 7, under the range codes 0 none, 1 clamp, 2 wrap
abbrev call : ℕ → Call
call range = call_of (mixed range)

abbrev u8 : Kind
u8 = kind_of 4

-- n as a multiple of 2^-1074
abbrev int : ℕ → ℤ
int n = pos (n * 2 ^ 1074)

abbrev two_and_a_half : ℤ
two_and_a_half = pos (5 * 2 ^ 1073)

-- ---- reached
passed : (g : ℕ) → g < 3 → T (call g).passed
unfolding call_of
passed zero h = tt
passed (suc zero) h = tt
passed (suc (suc zero)) h = tt
passed (suc (suc (suc g))) h = absurd (omega arith)

-- 2.5, NaN and -0 are refused under no range code
free : (g k : ℕ) → k < 3 → Refuses (outcome_at (call g) k) → ⊥
unfolding call_of settings_of outcome_at outcome_of pattern_of value_of lowest highest pick bits_mag size
free g zero h r = r
free g (suc zero) h r = r
free g (suc (suc zero)) h r = r
free g (suc (suc (suc k))) h r = absurd (omega arith)

reached : (g i : ℕ) → g < 3 → i ≤ 3 → Reached (call g) i
unfolding call_of
reached g i h l = record { passed = passed g h; within = omega arith; before = λ k m. free g k (omega arith) }

-- 100 is not reached where 300 is refused
pub not_reached : Reached (call 0) 4 → ⊥
unfolding call_of settings_of outcome_at outcome_of beyond pattern_of value_of lowest highest pick bits_mag size
not_reached R = R.before 3 (lit< tt) tt

-- ---- taken: the map's keys are NaN and 0
abbrev magnitude : Value → ℕ
magnitude nan = 0
magnitude (inf s) = 0
magnitude (num x) = nat_abs x

pub taken : (g i n : ℕ) → 0 < n → Reached (call g) i → value_of f64 ((call g).element i) ≡ num (pos n) → Taken (call g) i (pos n)
unfolding call_of settings_of value_of bits_mag
taken g i n some R e = record { reached = R; finite = e; unmatched = λ d m v. omega (arith, ap magnitude v, keys d m) }
  where
    keys : (d : Entry) → Memᴰ d (call g).settings.entries → magnitude (value_of f64 d.key) ≡ 0
    keys d m = ⊎_elim
        (λ (h : d ≡ record { key = 0x7ff8_0000_0000_0000; target = 9 }). ap (λ (d : Entry). magnitude (value_of f64 d.key)) h)
        (λ m. ⊎_elim
        (λ (h : d ≡ record { key = 0; target = 7 }). ap (λ (d : Entry). magnitude (value_of f64 d.key)) h)
        (λ m. absurd (Memᴰ.not-nil m))
        (Memᴰ.cases_cons m))
        (Memᴰ.cases_cons m)

-- 2.5 at the position 0
pub taken_0 : (g : ℕ) → g < 3 → Taken (call g) 0 two_and_a_half
unfolding call_of value_of bits_mag
taken_0 g h = taken g 0 (5 * 2 ^ 1073) (lit< tt) (reached g 0 h (omega arith)) refl

-- 300 at the position 3
pub taken_3 : (g : ℕ) → g < 3 → Taken (call g) 3 (int 300)
unfolding call_of value_of bits_mag
taken_3 g h = taken g 3 (300 * 2 ^ 1074) (lit< tt) (reached g 3 h (omega arith)) refl

-- -0 at the position 2 is reached and not taken: the entry of 0 matches it
pub mapped_2 : (g : ℕ) → g < 3 → Reached (call g) 2 × ((x : ℤ) → Taken (call g) 2 x → ⊥)
unfolding call_of settings_of value_of bits_mag
mapped_2 g h = (reached g 2 h (omega arith), λ x t. t.unmatched (record { key = 0; target = 7 }) (Memᴰ.tail (Memᴰ.head refl)) t.finite)

-- ---- what an answer r and results res that meet demand 3 must be
module _ (r : Answer) (res : ℕ → Value) where
  -- of a taken element whose pick is y
  says : (g i : ℕ) (x y : ℤ) → Taken (call g) i x → pick (whole 1074) NearestEven x ≡ y → Demand3 (call g) r res
      → (InRange u8 y → Kept r i × (res i ≡ num y)) × ((InRange u8 y → ⊥) → Handled u8 (range_of g) r (res i) i x y)
  unfolding call_of settings_of
  says g i x y t p D =
      let R = D.each i x t in
      subst (λ (z : ℤ). (InRange u8 z → Kept r i × (res i ≡ num z)) × ((InRange u8 z → ⊥) → Handled u8 (range_of g) r (res i) i x z))
      (pick_only (whole 1074) tt NearestEven x R.y R.pick ∙ p) (R.result, R.past)

  -- 2.5 is picked: 2
  pub must_store : (g : ℕ) → g < 3 → Demand3 (call g) r res → Kept r 0 × (res 0 ≡ num (int 2))
  unfolding pick lowest highest
  must_store g h D = (says g 0 two_and_a_half (int 2) (taken_0 g h) refl D).0 (le_z_yes tt, le_z_yes tt)

  -- 300 is past u8
  past : (g : ℕ) → g < 3 → Demand3 (call g) r res → Handled u8 (range_of g) r (res 3) 3 (int 300) (int 300)
  unfolding pick highest
  past g h D = (says g 3 (int 300) (int 300) (taken_3 g h) refl D).1 (λ (i : InRange u8 (int 300)). i.1.le)

  -- it is refused by 6 at its position
  pub must_refuse : Demand3 (call 0) r res → RefusedBy 6 r 3
  must_refuse D = past 0 (lit< tt) D

  -- it is clamped: 255
  pub must_clamp : Demand3 (call 1) r res → Kept r 3 × (res 3 ≡ num (int 255))
  unfolding highest
  must_clamp D = let h = past 1 (lit< tt) D in (h.0, h.2 (lt_z_yes tt))

  -- it is wrapped: 44, as 300 is 44 and one turn of 256
  pub must_wrap : Demand3 (call 2) r res → Kept r 3 × (res 3 ≡ num (int 44))
  unfolding lowest highest
  must_wrap D =
      let h = past 2 (lit< tt) D in
      let c : Congruent u8 (num (int 44)) (int 300) = record { z = int 44; value = refl; in_range = (le_z_yes tt, le_z_yes tt); turns = pos 1; apart = refl } in
      (h.0, one_number false 8 (res 3) (num (int 44)) (int 300) (lit< tt) h.1 c)

  -- 2.5 and 300 are both converted under clamp, so the larger has not the smaller result
  pub in_order : Demand3 (call 1) r res → res 0 ≤ᵉ res 3
  unfolding call_of settings_of
  in_order D = D.order 0 3 two_and_a_half (int 300) (taken_0 1 (lit< tt), (must_store 1 (lit< tt) D).0, λ w. w.wraps) (taken_3 1 (lit< tt), (must_clamp D).0, λ w. w.wraps) (le_z_yes tt)

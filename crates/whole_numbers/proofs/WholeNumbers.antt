-- A finite magnitude rounded to a whole number, as a program has it: its count modulo 2^64, whether it exceeds 64 bits, and where it lies.
use mathlib.Core.Path.{◌≡◌, refl, sym, ap, ap₂, ◌∙◌}
use mathlib.Core.Bool.{Bool, false, true}
use Prim.Native.Nat.{min, ℕ, ◌+◌, ◌-◌, ◌*◌, ◌%◌, ◌^◌, ◌≤◌, ◌<◌}
use native.Mathlib.Nat.{le_of_eq, le_trans, lt_of_lt_of_le, mod-eq_of_lt, mul_assoc, mul-le-mul_right, mul-mod_left}
use native.Mathlib.Omega.{arith}
use lib.Dec.{leb, ltb}
use lib.Pow.{pow-add, pow_mono, shl_lt}
use borrow.Author.Tests.{lt-leb, le-leb, le-ltb, lt-ltb}
use Rattle.grid.specs.declared.RoundingMode.{RoundingMode}
use Rattle.grid.specs.declared.Rounded.{Rounded}
use Rattle.grid.specs.declared.Ternary.{Ternary}
use Rattle.grid.specs.declared.Ternary.TheVariants.{Exact}
use Rattle.grid.specs.Grid.{whole}
use Rattle.grid.specs.Round.{rule_for, signed}
use Rattle.grid.specs.Ternary.{ternary_of, ternary_for}
use Rattle.grid.proofs.Kept.{pick_exact}
use Rattle.grid.proofs.Neighbours.{cut}
use Rattle.grid.proofs.Sides.{exact_is}
use Rattle.scaled.specs.Scaled.{Canonical}
use Rattle.rounding.specs.Rounding.{Droppable, shifted, units_of}
use Rattle.whole_numbers.specs.Whole.{whole_of}
use Rattle.whole_numbers.specs.declared.Whole.{Whole}
use Rattle.rounding.proofs.Units.{below_unit, from_unit, unit_side, whole_times_unit}

whole_at : (neg : Bool) (r : RoundingMode) (n N q : ℕ) (c : Bool) (t : Ternary) → units_of 1074 (rule_for neg r) n ≡ N → N % 2 ^ 64 ≡ q → leb (2 ^ 64) N ≡ c → t ≡ ternary_for (whole 1074) neg r n → record { magnitude = q; exceeds = c; ternary = t } ≡ whole_of neg r n
whole_at neg r n N q c t is d e f =
    ap₂ {C = Whole} (λ (q : ℕ) (c : Bool). record { magnitude = q; exceeds = c; ternary = t }) (sym (ap (λ (z : ℕ). z % 2 ^ 64) is ∙ d)) (sym (ap (leb (2 ^ 64)) is ∙ e))
    ∙ ap {B = Whole} (λ (t : Ternary). record { magnitude = units_of 1074 (rule_for neg r) n % 2 ^ 64; exceeds = leb (2 ^ 64) (units_of 1074 (rule_for neg r) n); ternary = t }) f

module _ (neg : Bool) (r : RoundingMode) (m e : ℕ) (ask : Canonical (record { significand = m; exponent = e })) where
  pub drop_asks : (j : ℕ) → e < 1074 → j ≡ min (1074 - e) 63 → Droppable m j
  drop_asks j l is = record { positive = omega arith; below_64 = omega arith; fits = omega (arith, ask.small, pow_mono {i = j} {j = 63} (omega arith)) }

  pub low_is : (w : Rounded) (j : ℕ) → w.bits < 2 ^ 64 → e < 1074 → j ≡ min (1074 - e) 63 → w ≡ shifted neg r m j → record { magnitude = w.bits; exceeds = false; ternary = w.ternary } ≡ whole_of neg r (m * 2 ^ e)
  low_is w j s l is d =
      let u = ap (λ (x : Rounded). x.bits) d in
      let N = sym (u ∙ below_unit (rule_for neg r) 1074 m e j ask.small l is) in
      whole_at neg r (m * 2 ^ e) w.bits w.bits false w.ternary N (mod-eq_of_lt s) (lt-leb (2 ^ 64) w.bits s)
      (ap (λ (x : Rounded). x.ternary) d
      ∙ ap (λ (q : ℕ). ternary_of (signed neg m) (signed neg (q * 2 ^ j))) (sym u)
      ∙ unit_side neg 1074 m e j w.bits ask.small l is
      ∙ ap (λ (z : ℕ). ternary_of (signed neg (m * 2 ^ e)) (signed neg z)) (ap (λ (q : ℕ). q * 2 ^ 1074) (sym N) ∙ sym (whole_times_unit (rule_for neg r) 1074 (m * 2 ^ e))))

  large : 1085 < e → 2 ^ 64 ≤ m * 2 ^ (e - 1074)
  large h = le_trans (pow_mono {i = 64} {j = 52 + (e - 1074)} (omega arith)) (le_trans (le_of_eq (pow-add 2 52 (e - 1074))) (mul-le-mul_right (2 ^ (e - 1074)) (ask.leading (omega arith))))

  reaches : leb (2 ^ 64) (m * 2 ^ (e - 1074)) ≡ ltb 1085 e
  reaches = cut 1085 e
      (λ (h : 1085 < e). le-leb (2 ^ 64) _ (large h) ∙ sym (lt-ltb 1085 e h))
      (λ (h : e ≤ 1085). lt-leb (2 ^ 64) _ (lt_of_lt_of_le (shl_lt 53 (e - 1074) ask.small) (pow_mono {i = 53 + (e - 1074)} {j = 64} (omega arith))) ∙ sym (le-ltb 1085 e h))

  -- from 2^1074 on the number is whole
  exact : 1074 ≤ e → Exact ≡ ternary_for (whole 1074) neg r (m * 2 ^ e)
  exact h = sym (exact_is _ _ (ap (signed neg) (pick_exact (whole 1074) tt (rule_for neg r) m e h)))

  pub up_is : 1074 ≤ e → record { magnitude = m * 2 ^ (e - 1074) % 2 ^ 64; exceeds = ltb 1085 e; ternary = Exact } ≡ whole_of neg r (m * 2 ^ e)
  up_is h = whole_at neg r (m * 2 ^ e) (m * 2 ^ (e - 1074)) _ _ Exact (from_unit (rule_for neg r) 1074 m e h) refl reaches (exact h)

  pub high_is : 1138 ≤ e → record { magnitude = 0; exceeds = true; ternary = Exact } ≡ whole_of neg r (m * 2 ^ e)
  high_is h =
      let d : m * 2 ^ (e - 1074) ≡ m * 2 ^ (e - 1138) * 2 ^ 64 = ap (λ (z : ℕ). m * 2 ^ z) (parts e h) ∙ ap (λ (z : ℕ). m * z) (pow-add 2 (e - 1138) 64) ∙ sym (mul_assoc m (2 ^ (e - 1138)) (2 ^ 64)) in
      whole_at neg r (m * 2 ^ e) (m * 2 ^ (e - 1074)) 0 true Exact (from_unit (rule_for neg r) 1074 m e (omega arith)) (ap (λ (z : ℕ). z % 2 ^ 64) d ∙ mul-mod_left (m * 2 ^ (e - 1138)) (2 ^ 64)) (le-leb (2 ^ 64) _ (large (omega arith))) (exact (omega arith))
    where
      parts : (e : ℕ) → 1138 ≤ e → e - 1074 ≡ e - 1138 + 64
      parts e h = omega arith

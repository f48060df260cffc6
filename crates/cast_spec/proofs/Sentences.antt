-- Sentences of the scope document that hold of the definitions.
use mathlib.Core.Path.{◌≡◌, refl, sym, ap, subst, ◌∙◌}
use mathlib.Core.Logic.{◌≢◌}
use mathlib.Core.Bool.{Bool, true, false, cond}
use mathlib.Core.List.{List}
use Prim.Native.Nat.{ℕ, ◌+◌, ◌-◌, ◌*◌, ◌^◌, ◌≤◌, ◌<◌}
use native.Mathlib.Nat.{le_trans, mul-le-mul_right}
use native.Mathlib.Omega.{arith}
use lib.Dec.{lit≤}
use lib.IntN.{ℤ, pos, neg_ℤ, nat_abs}
use lib.Pow.{pow-add, pow_pos, pow_mono}
use lib.Signed.{◌≤ℤ◌}
use borrow.Author.Tests.{ne_eqb}
use Rattle.grid.specs.Grid.{float, OnMag}
use Rattle.grid.specs.declared.RoundingMode.{RoundingMode}
use Rattle.grid.specs.Round.{pick, signed}
use Rattle.patterns.specs.Float.{bits_mag, inf_bits}
use Rattle.grid.proofs.Int.{ints, up_neg, dn_neg, abs_is}
use Rattle.grid.proofs.Picked.{pick_mono, pick_own}
use Rattle.patterns.specs.Kind.{binary, f32, f64, integer, lowest, highest, InRange}
use Rattle.patterns.specs.Value.{nan, num, negative, value_of}
use Rattle.patterns.specs.Pattern.{as_f64, quiet, nan_pattern}
use Rattle.patterns.proofs.Floats as floats
use Rattle.patterns.proofs.Quiet.{quiet_lt}
use Rattle.codes.specs.declared.OutOfRangeMode.{OutOfRangeMode}
use Rattle.cast_spec.specs.Element.{Entry, Settings, found_or, lookup_of, outcome_of, ranged}
use Rattle.cast_spec.proofs.Steps.{by_range}
use Rattle.answers.specs.Outcome.{Outcome}

-- "NaN to a float kind": a NaN's pattern in another float kind is a NaN
pub nan_stays : (p w s p' w' s' b : ℕ) → p ≢ p' → 2 ≤ p' → 0 < w' → value_of (binary p' w' s') (nan_pattern (binary p w s) p' w' b) ≡ nan
unfolding nan_pattern
nan_stays p w s p' w' s' b ne two some = simp (ne_eqb p p' ne) (floats.nan_back p' w' s' two some (negative (binary p w s) b) (quiet p p' b) (omega (arith, pow_pos (p' - 2))) (quiet_lt p p' b two))

-- a magnitude of at most 2 ^ 64 has a pick of at most that
pub no_overrun : (p s : ℕ) → 2 ≤ p → s ≤ 64 + 1074 → (p' w' s' : ℕ) → 2 ^ (64 + 1074) ≤ bits_mag p' s' (inf_bits p' w' - 1) → (r : RoundingMode) (x : ℤ) → nat_abs x ≤ 2 ^ (64 + 1074) → InRange (binary p' w' s') (pick (float p s) r x)
unfolding lowest highest
no_overrun p s two fine p' w' s' room r x h =
    let m = 2 ^ (64 + 1074) in
    let on : OnMag (float p s) m = record { m = 1; e = 64 + 1074; written = (pow_mono {i = 1} {j = p} (omega arith), fine, refl) } in
    inside m (bits_mag p' s' (inf_bits p' w' - 1)) x r (pick_own (float p s) two r (pos m) on) (pick_own (float p s) two r (neg_ℤ (pos m)) (subst (λ (z : ℕ). OnMag (float p s) z) (sym (floats.abs_signed true m)) on)) room h
  where
    inside : (m M : ℕ) (x : ℤ) (r : RoundingMode) → pick (float p s) r (pos m) ≡ pos m → pick (float p s) r (neg_ℤ (pos m)) ≡ neg_ℤ (pos m) → m ≤ M → nat_abs x ≤ m → (neg_ℤ (pos M) ≤ℤ pick (float p s) r x) × (pick (float p s) r x ≤ℤ pos M)
    inside m M x r a b k h =
        let u : pick (float p s) r x ≤ℤ pos m = subst (λ (z : ℤ). pick (float p s) r x ≤ℤ z) a (pick_mono (float p s) two r x (pos m) (omega (ints, abs_is x))) in
        let d : neg_ℤ (pos m) ≤ℤ pick (float p s) r x = subst (λ (z : ℤ). z ≤ℤ pick (float p s) r x) b (pick_mono (float p s) two r (neg_ℤ (pos m)) x (omega (ints, abs_is x, up_neg (pos m), dn_neg (pos m)))) in
        (omega (ints, up_neg (pos m), dn_neg (pos m), up_neg (pos M), dn_neg (pos M)), omega ints)

-- so the range choice plays no part where such a target's largest number is not below 2 ^ 64
module _ (p w s : ℕ) (two : 2 ≤ p) (fine : s ≤ 64 + 1074) (room : 2 ^ (64 + 1074) ≤ bits_mag p s (inf_bits p w - 1)) (t : Bool) (n : ℕ) (most : n ≤ 64) (b : ℕ) (fits : b < 2 ^ n) (rule : RoundingMode) (es : List Entry) where
  abbrev S : OutOfRangeMode → Settings
  S range = record { from = integer t n; to = binary p w s; rule = rule; range = range; entries = es }

  magnitude_small : (neg : Bool) → nat_abs (signed neg (cond neg (2 ^ n - b) b * 2 ^ 1074)) ≤ 2 ^ (64 + 1074)
  magnitude_small neg = subst (λ (z : ℕ). z ≤ 2 ^ (64 + 1074)) (sym (floats.abs_signed neg (cond neg (2 ^ n - b) b * 2 ^ 1074))) (subst (λ (z : ℕ). cond neg (2 ^ n - b) b * 2 ^ 1074 ≤ z) (sym (pow-add 2 64 1074)) (mul-le-mul_right (2 ^ 1074) (le_trans (within neg) (pow_mono {i = n} {j = 64} most))))
    where
      within : (neg : Bool) → cond neg (2 ^ n - b) b ≤ 2 ^ n
      within true = omega arith
      within false = omega arith

  pub no_range_choice : (range range' : OutOfRangeMode) → outcome_of (S range) b ≡ outcome_of (S range') b
  unfolding outcome_of value_of
  no_range_choice range range' =
      let neg = negative (integer t n) b in
      let x = signed neg (cond neg (2 ^ n - b) b * 2 ^ 1074) in
      ap (found_or (lookup_of (integer t n) (num x) es))
      ((by_range (λ (o : Outcome). ranged (binary p w s) range (as_f64 (integer t n) b) neg x (pick (float p s) rule x) ≡ o) (binary p w s) (pick (float p s) rule x) _ _ refl).0 (inside neg)
      ∙ sym ((by_range (λ (o : Outcome). ranged (binary p w s) range' (as_f64 (integer t n) b) neg x (pick (float p s) rule x) ≡ o) (binary p w s) (pick (float p s) rule x) _ _ refl).0 (inside neg)))
    where
      inside : (neg : Bool) → InRange (binary p w s) (pick (float p s) rule (signed neg (cond neg (2 ^ n - b) b * 2 ^ 1074)))
      inside neg = no_overrun p s two fine p w s room rule _ (magnitude_small neg)

-- "From an integer kind no float target of these two overruns"
pub integer_to_f32 : (t : Bool) (n : ℕ) → n ≤ 64 → (b : ℕ) → b < 2 ^ n → (rule : RoundingMode) (es : List Entry) (range range' : OutOfRangeMode)
    → outcome_of (record { from = integer t n; to = f32; rule = rule; range = range; entries = es }) b ≡ outcome_of (record { from = integer t n; to = f32; rule = rule; range = range'; entries = es }) b
unfolding bits_mag
integer_to_f32 = no_range_choice 24 8 925 (lit≤ tt) (lit≤ tt) (lit≤ tt)

pub integer_to_f64 : (t : Bool) (n : ℕ) → n ≤ 64 → (b : ℕ) → b < 2 ^ n → (rule : RoundingMode) (es : List Entry) (range range' : OutOfRangeMode)
    → outcome_of (record { from = integer t n; to = f64; rule = rule; range = range; entries = es }) b ≡ outcome_of (record { from = integer t n; to = f64; rule = rule; range = range'; entries = es }) b
unfolding bits_mag
integer_to_f64 = no_range_choice 53 11 0 (lit≤ tt) (lit≤ tt) (lit≤ tt)

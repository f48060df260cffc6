-- A magnitude by its 53 highest bits, or all of them: written in one way only, and for a number of f64 the whole number, with its bits.
use mathlib.Core.Path.{◌≡◌, sym, ap, ap₂, subst, ◌∙◌}
use Prim.Native.Nat.{ℕ, zero, suc, max, ◌+◌, ◌-◌, ◌*◌, ◌/◌, ◌^◌, ◌≤◌, ◌<◌}
use native.Mathlib.Nat.{le_antisymm, mul-div_cancel}
use native.Mathlib.Omega.{arith}
use lib.Dec.{lit<, lit≤}
use lib.Ieee.{size}
use lib.Ieee.Digits.{size-le, size-lt}
use lib.Pow.{pow_pos, pow_mono}
use Rattle.grid.specs.Grid.{OnMag, float}
use Rattle.grid.proofs.Neighbours.{cut, kept_lt, kept_full}
use Rattle.grid.proofs.Kept.{size_shift}
use Rattle.patterns.specs.Pattern.{mag_bits}
use Rattle.patterns.proofs.Floats.{whole_units}
use Rattle.scaled.specs.Scaled.{finite_bits, scaled_of}
use Rattle.scaled.specs.declared.Scaled.{Scaled}

-- ---- 53 significant bits, or fewer at the exponent 0, are written in one way only
full_size : (m : ℕ) → m < 2 ^ 53 → 2 ^ 52 ≤ m → size m ≡ 53
full_size m small full = le_antisymm (size-le m 53 small) (cut (size m) 53 (λ (l : size m < 53). let k : 2 ^ size m ≤ 2 ^ 52 = pow_mono {j = 52} (omega arith) in absurd (omega (arith, size-lt m))) (λ l. l))

scaled_exponent : (m e : ℕ) → m < 2 ^ 53 → (0 < e → 2 ^ 52 ≤ m) → size (m * 2 ^ e) - 53 ≡ e
scaled_exponent m zero small leading = ap (λ (z : ℕ). size z - 53) (alone m) ∙ few (size-le m 53 small)
  where
    alone : (m : ℕ) → m * 2 ^ 0 ≡ m
    alone m = omega arith

    few : size m ≤ 53 → size m - 53 ≡ 0
    few h = omega arith
scaled_exponent m (suc e) small leading =
    let h = leading (omega arith) in
    ap (λ (z : ℕ). z - 53) (size_shift m (suc e) (omega arith)) ∙ omega (arith, full_size m small h)

pub scaled_only : (m e : ℕ) → m < 2 ^ 53 → (0 < e → 2 ^ 52 ≤ m) → record { significand = m; exponent = e } ≡ scaled_of (m * 2 ^ e)
scaled_only m e small leading =
    let E = scaled_exponent m e small leading in
    sym (ap₂ {C = Scaled} (λ (a b : ℕ). record { significand = a; exponent = b }) (ap (λ (z : ℕ). m * 2 ^ e / 2 ^ z) E ∙ mul-div_cancel m (pow_pos e)) E)

-- ---- a number of f64 by its highest bits
no_max : (z : ℕ) → max 0 z ≡ z
no_max z = omega arith

module _ (n : ℕ) where
  pub scaled_small : (scaled_of n).significand < 2 ^ 53
  scaled_small = subst (λ (e : ℕ). n / 2 ^ e < 2 ^ 53) (no_max (size n - 53)) (kept_lt 53 0 n)

  pub scaled_leading : 0 < (scaled_of n).exponent → 2 ^ 52 ≤ (scaled_of n).significand
  scaled_leading = subst (λ (e : ℕ). 0 < e → 2 ^ 52 ≤ n / 2 ^ e) (no_max (size n - 53)) (kept_full 53 0 n (lit≤ tt))

  module _ (on : OnMag (float 53 0) n) where
    pub scaled_whole : (scaled_of n).significand * 2 ^ (scaled_of n).exponent ≡ n
    scaled_whole = ap (λ (e : ℕ). n / 2 ^ e * 2 ^ e) (sym (no_max (size n - 53))) ∙ whole_units 53 11 0 (lit≤ tt) (lit< tt) n on

    pub scaled_bits : finite_bits (scaled_of n) ≡ mag_bits 53 0 n
    scaled_bits = ap (λ (e : ℕ). e * 2 ^ 52 + n / 2 ^ e) (sym (no_max (size n - 53))) ∙ ap (λ (e : ℕ). e * 2 ^ 52 + n / 2 ^ max 0 (size n - 53)) (none (max 0 (size n - 53)))
      where
        none : (z : ℕ) → z ≡ z - 0
        none z = omega arith

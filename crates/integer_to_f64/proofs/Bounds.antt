-- A 64-bit integer's pick is at most 2^64, and so a number of f64 whatever the precision.
use mathlib.Core.Path.{◌≡◌, sym, ap, subst}
use Prim.Native.Nat.{ℕ, ◌+◌, ◌-◌, ◌*◌, ◌^◌, ◌≤◌, ◌<◌}
use native.Mathlib.Nat.{le_of_eq, le_of_lt, le_trans, lt_trans, mul-le-mul_right, one-mul}
use native.Mathlib.Omega.{arith}
use lib.Dec.{lit<, lit≤}
use lib.IntN.{nat_abs}
use lib.Pow.{pow-add, pow_mono}
use Rattle.grid.specs.Grid.{OnMag, float}
use Rattle.grid.specs.Round.{pick_mag}
use Rattle.grid.specs.declared.RoundingMode.{RoundingMode}
use Rattle.grid.proofs.Neighbours.{finer}
use Rattle.grid.proofs.Picked.{picked_pos, pick_mag_mono}
use Rattle.patterns.specs.Float.{bits_mag, inf_bits}
use Rattle.patterns.specs.Pattern.{mag_bits}
use Rattle.patterns.proofs.Floats.{inf_lt, mag_lt}
use Rattle.integer_rounding.specs.Precision.{Precision}
use Rattle.integer_to_f64.proofs.Scale.{pick_scale}

pick_le_power : (p : ℕ) → 2 ≤ p → (r : RoundingMode) (m k : ℕ) → m ≤ 2 ^ k → pick_mag (float p 0) r m ≤ 2 ^ k
pick_le_power p two r m k h = subst (λ (z : ℕ). pick_mag (float p 0) r m ≤ z) own (pick_mag_mono (float p 0) two r m (2 ^ k) h)
  where
    own : pick_mag (float p 0) r (2 ^ k) ≡ 2 ^ k
    own = ap nat_abs ((picked_pos (float p 0) two r (2 ^ k)).itself (record { m = 1; e = k; written = (pow_mono {i = 1} {j = p} (omega arith), omega arith, sym (one-mul (2 ^ k))) }))

f64_room : 2 ^ (64 + 1074) ≤ bits_mag 53 0 (inf_bits 53 11 - 1)
unfolding bits_mag
f64_room = lit≤ tt

module _ (p : ℕ) (precision : Precision p) (r : RoundingMode) (m : ℕ) (small : m < 2 ^ 64) where
  abbrev n : ℕ
  n = pick_mag (float p 0) r m * 2 ^ 1074

  pub pick_on : OnMag (float p 0) n
  pick_on = subst (λ (z : ℕ). OnMag (float p 0) z) (pick_scale p 0 r m 1074 (omega arith)) (picked_pos (float p 0) precision.two r (m * 2 ^ 1074)).on

  pub pick_in_f64 : n ≤ bits_mag 53 0 (inf_bits 53 11 - 1)
  pick_in_f64 = le_trans (mul-le-mul_right (2 ^ 1074) (pick_le_power p precision.two r m 64 (le_of_lt small))) (le_trans (le_of_eq (sym (pow-add 2 64 1074))) f64_room)

  pub pick_bits_lt : mag_bits 53 0 n < 2 ^ 63
  pick_bits_lt = lt_trans (mag_lt 53 11 0 (lit≤ tt) (lit< tt) n (finer p 0 53 0 n precision.at_most_53 (omega arith) pick_on) pick_in_f64) (inf_lt 53 11 0 (lit≤ tt) (lit< tt))

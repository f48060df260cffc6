-- A number of at most 53 bits moved up until its highest bit is the 53rd: by how many places, and that it is the same magnitude.
use mathlib.Core.Path.{◌≡◌, sym, ap, ◌∙◌}
use Prim.Native.Nat.{ℕ, suc, ◌+◌, ◌-◌, ◌*◌, ◌/◌, ◌%◌, ◌^◌, ◌≤◌, ◌<◌}
use native.Mathlib.Nat.{le_of_eq, le_trans, lt_of_lt_of_le, mul_assoc, mul-le-mul_right, zero-mul}
use native.Mathlib.Omega.{arith}
use lib.Count.{count_leading_zeros, leading_top}
use lib.Pow.{pow-add, pow_mono, shl_lt}
use Rattle.grid.proofs.Neighbours.{cut}
use Rattle.scaled.specs.Scaled.{scaled_of}
use Rattle.scaled.specs.declared.Scaled.{Scaled}
use Rattle.scaled.proofs.Magnitudes.{scaled_only}

pub zero_normalized : (a e : ℕ) → a ≡ 0 → record { significand = 0; exponent = 0 } ≡ scaled_of (a * 2 ^ e)
zero_normalized a e z = scaled_only 0 0 (omega arith) (λ (h : 0 < 0). absurd (omega arith)) ∙ ap scaled_of (zero-mul (2 ^ 0) ∙ sym (ap (λ (n : ℕ). n * 2 ^ e) z ∙ zero-mul (2 ^ e)))

module _ (a e : ℕ) (some : (a ≡ 0 → ⊥)) (small : a < 2 ^ 53) (fine : 53 ≤ e) where
  abbrev shift : ℕ
  shift = count_leading_zeros 64 a - 11

  top : (j : ℕ) × (count_leading_zeros 64 a + suc j ≡ 64) × (2 ^ j ≤ a) × (a < 2 ^ suc j)
  top = leading_top 64 a (omega arith) (lt_of_lt_of_le small (pow_mono {i = 53} {j = 64} (omega arith)))

  high : top.0 < 53
  high = cut top.0 53 (λ l. l) (λ (l : 53 ≤ top.0). absurd (omega (arith, top.2, pow_mono {i = 53} l)))

  places : shift + suc top.0 ≡ 53
  places = omega (arith, top.1, high)

  pub zeros_between : (11 ≤ count_leading_zeros 64 a) × (count_leading_zeros 64 a < 64)
  zeros_between = (omega (arith, top.1, high), omega (arith, top.1))

  full : 2 ^ 52 ≤ a * 2 ^ shift
  full = le_trans (le_of_eq (ap (λ (z : ℕ). 2 ^ z) (split top.0 shift places) ∙ pow-add 2 top.0 shift)) (mul-le-mul_right (2 ^ shift) top.2)
    where
      split : (j k : ℕ) → k + suc j ≡ 53 → 52 ≡ j + k
      split j k e = omega arith

  moved_lt : a * 2 ^ shift < 2 ^ 53
  moved_lt = lt_of_lt_of_le (shl_lt (suc top.0) shift top.3) (le_of_eq (ap (λ (z : ℕ). 2 ^ z) (join top.0 shift places)))
    where
      join : (j k : ℕ) → k + suc j ≡ 53 → suc j + k ≡ 53
      join j k e = omega arith

  -- up by all the zeros, where no bit is lost, and back down by 11
  moved : a * 2 ^ count_leading_zeros 64 a % 2 ^ 64 / 2 ^ 11 ≡ a * 2 ^ shift
  moved = back_down (a * 2 ^ count_leading_zeros 64 a) (a * 2 ^ shift) (ap (λ (z : ℕ). a * 2 ^ z) (split (count_leading_zeros 64 a) zeros_between.0) ∙ ap (λ (z : ℕ). a * z) (pow-add 2 shift 11) ∙ sym (mul_assoc a (2 ^ shift) (2 ^ 11))) moved_lt
    where
      split : (z : ℕ) → 11 ≤ z → z ≡ z - 11 + 11
      split z h = omega arith

      back_down : (x m : ℕ) → x ≡ m * 2 ^ 11 → m < 2 ^ 53 → x % 2 ^ 64 / 2 ^ 11 ≡ m
      back_down x m e h = omega arith

  pub normalized : record { significand = a * 2 ^ count_leading_zeros 64 a % 2 ^ 64 / 2 ^ 11; exponent = e - (count_leading_zeros 64 a - 11) } ≡ scaled_of (a * 2 ^ e)
  normalized =
      ap {B = Scaled} (λ (m : ℕ). record { significand = m; exponent = e - shift }) moved
      ∙ scaled_only (a * 2 ^ shift) (e - shift) moved_lt (λ _. full)
      ∙ ap scaled_of (mul_assoc a (2 ^ shift) (2 ^ (e - shift)) ∙ ap (λ (z : ℕ). a * z) (sym (pow-add 2 shift (e - shift))) ∙ ap (λ (z : ℕ). a * 2 ^ z) (back shift (omega (arith, places))))
    where
      back : (k : ℕ) → k < 53 → k + (e - k) ≡ e
      back k h = omega arith

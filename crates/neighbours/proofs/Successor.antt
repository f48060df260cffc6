-- `next_up` gives the next number up, for any precision, exponent width and spacing.
use mathlib.Core.Path.{◌≡◌, refl, sym, ap, subst, ◌∙◌}
use mathlib.Core.Bool.{Bool, true, false}
use Prim.Native.Nat.{ℕ, suc, ◌+◌, ◌-◌, ◌*◌, ◌%◌, ◌^◌, ◌≤◌, ◌<◌}
use native.Mathlib.Nat.{mod-eq_of_lt, mod-eq-sub-mod}
use native.Mathlib.Omega.{arith}
use lib.Bits.{bit_and, and_mask}
use lib.IntN.{pos, neg_ℤ, nat_abs}
use lib.Pow.{pow_mono, pow_pos, shl_exact}
use borrow.Author.Tests.{le-leb, lt-leb, lt-ltb, le-ltb, eq-eqb, ne_eqb}
use Rattle.grid.specs.Round.{signed}
use Rattle.grid.proofs.Int.{up, dn, ints, up_neg, dn_neg}
use Rattle.grid.proofs.Neighbours.{cut, pow_twice_pred}
use Rattle.patterns.specs.Float.{bits_mag, inf_bits}
use Rattle.patterns.specs.Kind.{binary, f32}
use Rattle.patterns.specs.Value.{inf, num, negative, float_value, value_of}
use Rattle.patterns.specs.Pattern.{with_sign}
use Rattle.patterns.proofs.Encode.{bits_mono}
use Rattle.patterns.proofs.Floats.{abs_signed, is_num, is_inf, is_nan}
use Rattle.patterns.proofs.Floats as floats
use Rattle.neighbours.specs.Next.{LeastAbove, NextUp, SignBit, up_by, up_from, next_up}
use Rattle.neighbours.proofs.Ranks.{no_bits, below_ranks, ranks_below}

-- ---- the cases of `up_by`
module _ (i h b x : ℕ) where
  pub up_nan : i < x → up_by i h b x ≡ b
  up_nan l = simp (lt-ltb i x l)

  module _ (small : x ≤ i) where
    pub up_infinite : b ≡ i → up_by i h b x ≡ b
    up_infinite e = simp (le-ltb i x small, eq-eqb b i e)

    module _ (other : b ≡ i → ⊥) where
      pub up_zero : x ≡ 0 → up_by i h b x ≡ 1
      up_zero e = simp (le-ltb i x small, ne_eqb b i other, eq-eqb x 0 e)

      pub up_negative : (x ≡ 0 → ⊥) → h ≤ b → up_by i h b x ≡ b - 1
      up_negative n l = simp (le-ltb i x small, ne_eqb b i other, ne_eqb x 0 n, le-leb h b l)

      pub up_positive : (x ≡ 0 → ⊥) → b < h → up_by i h b x ≡ b + 1
      up_positive n l = simp (le-ltb i x small, ne_eqb b i other, ne_eqb x 0 n, lt-leb h b l)

-- the sign's bit and the infinity, by shifts
module _ (p w : ℕ) (two : 2 ≤ p) (within : w + p ≤ 64) where
  pub infinity_made : (1 * 2 ^ w % 2 ^ 64 - 1) * 2 ^ (p - 1) % 2 ^ 64 ≡ inf_bits p w
  infinity_made =
      ap (λ (z : ℕ). (z - 1) * 2 ^ (p - 1) % 2 ^ 64) (mod-eq_of_lt (omega (arith, pow_mono {i = w} {j = 63} (omega arith))) ∙ one (2 ^ w))
      ∙ shl_exact w (p - 1) 64 (omega (arith, pow_pos w)) (omega arith)
    where
      one : (z : ℕ) → 1 * z ≡ z
      one z = omega arith

  pub sign_fits : (b h : ℕ) → b < 2 ^ (w + p) → h ≡ 2 ^ (w + p - 1) → SignBit b h
  sign_fits b h fits e = record {
    positive = omega (arith, e, pow_pos (w + p - 1));
    within_64_bits = omega (arith, e, pow_mono {i = w + p - 1} {j = 63} (omega arith));
    fits = omega (arith, e, fits, pow_twice_pred (w + p) (omega arith));
  }

-- the bits below the sign by a mask
pub masked : (p w b : ℕ) → up_from p w b (bit_and b (2 ^ (w + p - 1) - 1)) ≡ next_up p w b
unfolding next_up
masked p w b = ap (up_from p w b) (and_mask b (w + p - 1))

module _ (p w s b : ℕ) (two : 2 ≤ p) (one : 0 < w) (fit : b < 2 ^ (w + p)) where
  abbrev H : ℕ
  H = 2 ^ (w + p - 1)

  abbrev I : ℕ
  I = inf_bits p w

  abbrev x : ℕ
  x = b % H

  abbrev neg : Bool
  neg = negative (binary p w s) b

  double : 2 ^ (w + p) ≡ 2 * H
  double = pow_twice_pred (w + p) (omega arith)

  inf_under : I < H
  inf_under = floats.inf_lt p w s two one

  inf_some : 0 < I
  inf_some = floats.inf_pos p w s two one

  -- one more in signed bits
  abbrev Step : Bool → ℕ → Type 0
  Step j y = up (signed j y) + dn (signed neg x) ≡ suc (up (signed neg x) + dn (signed j y))

  module _ (small : x ≤ I) (j : Bool) (y : ℕ) (finite : y ≤ I) (next : Step j y) (keeps : y ≡ 0 → j ≡ neg) where
    room : y < H
    room = omega (arith, inf_under)

    at_y : value_of (binary p w s) (with_sign (w + p) j y) ≡ float_value p w s j y
    at_y = floats.read p w s two one j y room

    zero_is : float_value p w s j y ≡ num (pos 0) → y ≡ 0
    zero_is e = cut y I
        (λ (l : y < I).
        let f : num (signed j (bits_mag p s y)) ≡ num (pos 0) = sym (is_num p w s j y l) ∙ e in
        let g : signed j (bits_mag p s y) ≡ pos 0 = cc in
        let h : bits_mag p s y ≡ 0 = sym (abs_signed j (bits_mag p s y)) ∙ ap nat_abs g in
        cut 0 y (λ (m : 0 < y). absurd (omega (arith, no_bits p w s two one, bits_mono p s 0 y m))) (λ (m : y ≤ 0). omega arith))
        (λ (l : I ≤ y).
        let f : inf j ≡ num (pos 0) = sym (is_inf p w s j y (omega arith)) ∙ e in
        let z : ◌≡◌ {A = ℕ} 0 1 = cc in
        absurd (omega arith))

    pub least : LeastAbove (binary p w s) b (with_sign (w + p) j y)
    unfolding value_of
    least = record {
      fits = floats.sign_lt p w s two one j y room;
      above = rw at_y (ranks_below p w s two one neg j x y small finite (omega (ints, next)));
      none_between = λ c h a d.
          let l = below_ranks p w s two one neg (negative (binary p w s) c) x (c % H) a in
          let m = below_ranks p w s two one (negative (binary p w s) c) j (c % H) y (rw at_y at d) in
          omega (ints, next);
      sign = λ e. floats.sign_is p w s two one j y room ∙ keeps (zero_is (sym at_y ∙ e));
    }

  -- ---- the step by sign and bits
  zero_step : (i : Bool) (x : ℕ) → x ≡ 0 → 1 + dn (signed i x) ≡ suc (up (signed i x) + 0)
  zero_step false x e = omega arith
  zero_step true x e = omega (arith, up_neg (pos x), dn_neg (pos x))

  negative_step : (i : Bool) (x : ℕ) → i ≡ true → (x ≡ 0 → ⊥) → up (signed true (x - 1)) + dn (signed i x) ≡ suc (up (signed i x) + dn (signed true (x - 1)))
  negative_step true x e n = omega (arith, up_neg (pos x), dn_neg (pos x), up_neg (pos (x - 1)), dn_neg (pos (x - 1)))
  negative_step false x e n = let z : ◌≡◌ {A = ℕ} 0 1 = cc in absurd (omega arith)

  positive_step : (i : Bool) (x : ℕ) → i ≡ false → x + 1 + dn (signed i x) ≡ suc (up (signed i x) + 0)
  positive_step false x e = omega arith
  positive_step true x e = let z : ◌≡◌ {A = ℕ} 0 1 = cc in absurd (omega arith)

  lowest_is : b < H → x ≡ b
  lowest_is l = mod-eq_of_lt l

  high_is : H ≤ b → x ≡ b - H
  high_is l = mod-eq-sub-mod l ∙ mod-eq_of_lt (omega (arith, double))

  pub up_least : x ≤ I → (b ≡ I → ⊥) → LeastAbove (binary p w s) b (next_up p w b)
  unfolding next_up
  up_least small other = cut 0 x
      (λ (some : 0 < x). let n : (x ≡ 0 → ⊥) = λ e. omega arith in cut b H
      (λ (l : b < H). subst (LeastAbove (binary p w s) b) (sym (up_positive I H b x small other n l ∙ ap (λ (z : ℕ). z + 1) (sym (lowest_is l))))
      (least small false (x + 1) (low_room l) (positive_step neg x (lt-leb H b l)) (λ (e : x + 1 ≡ 0). absurd (omega arith))))
      (λ (l : H ≤ b). subst (LeastAbove (binary p w s) b) (sym (up_negative I H b x small other n l ∙ omega (arith, high_is l)))
      (least small true (x - 1) (omega arith) (negative_step neg x (le-leb H b l) n) (λ _. sym (le-leb H b l)))))
      (λ (none : x ≤ 0). let z : x ≡ 0 = omega arith in subst (LeastAbove (binary p w s) b) (sym (up_zero I H b x small other z))
      (least small false 1 inf_some (zero_step neg x z) (λ (e : 1 ≡ 0). absurd (omega arith))))
    where
      low_room : b < H → x + 1 ≤ I
      low_room l = cut x I (λ m. omega arith) (λ (m : I ≤ x). absurd (other (sym (lowest_is l) ∙ omega arith)))

  nan_stays : I < x → next_up p w b ≡ b
  unfolding next_up
  nan_stays l = up_nan I H b x l

  infinite_stays : x ≤ I → b ≡ I → next_up p w b ≡ b
  unfolding next_up
  infinite_stays l e = up_infinite I H b x l e

  pub next_up_is : NextUp (binary p w s) b (next_up p w b)
  unfolding value_of
  next_up_is = cut I x
      (λ (l : I < x). rw (is_nan p w s neg x l) (nan_stays l))
      (λ (l : x ≤ I). cut x I
      (λ (m : x < I). rw (is_num p w s neg x m) (up_least l (λ (e : b ≡ I). omega (arith, lowest_is (omega (arith, inf_under))))))
      (λ (m : I ≤ x). rw (is_inf p w s neg x (omega arith)) (cut b H
      (λ (k : b < H). rw (lt-leb H b k) (infinite_stays l (sym (lowest_is k) ∙ omega arith)))
      (λ (k : H ≤ b). rw (le-leb H b k) (up_least l (λ (e : b ≡ I). omega (arith, inf_under)))))))

-- "the next above -2^-149 in f32 is -0"
pub above_minus_least : (value_of f32 2147483649 ≡ num (neg_ℤ (pos (2 ^ 925)))) × (next_up 24 8 2147483649 ≡ 2147483648)
unfolding value_of next_up bits_mag
above_minus_least = (refl, refl)

-- The number of a float kind's pattern, for any precision, exponent width and spacing.
use mathlib.Core.Path.{◌≡◌, refl, sym, ap, ap₂, ◌∙◌, subst}
use mathlib.Core.Bool.{Bool, true, false, cond}
use Prim.Native.Nat.{ℕ, zero, suc, ◌+◌, ◌-◌, ◌*◌, ◌/◌, ◌%◌, ◌^◌, ◌≤◌, ◌<◌}
use native.Mathlib.Nat.{le_trans, le_of_eq, lt_of_lt_of_le, mod-eq_of_lt, mul-lt-mul_of_pos_right, mul-le-mul_right, one-mul, le-max_left, mod-lt, mod-eq-sub-mod, sub-add_cancel}
use native.Mathlib.Omega.{arith}
use lib.Arith.{digits_mod}
use lib.Dec.{ltb, eqb}
use lib.Ieee.{size}
use lib.IntN.{ℤ, nat_abs, neg_ℤ, pos}
use lib.Pow.{pow_pos, pow_mono, pow-add, suc_ones}
use lib.Signed.{◌≤ℤ◌}
use borrow.Author.Tests.{eq-eqb, eqb-false, eqb-true, le-leb, le-ltb, lt-leb, lt-ltb, ltb-false, ltb-true, ne_eqb}
use Rattle.grid.specs.Grid.{float, OnMag, OnGrid}
use Rattle.grid.specs.declared.RoundingMode.TheVariants.{TowardsZero}
use Rattle.grid.specs.Round.{pick_mag, unit_exp, signed}
use Rattle.patterns.specs.Float.{field_mag, bits_mag, inf_bits}
use Rattle.grid.proofs.Neighbours.{cut, pow_twice_pred, kept_lt, kept_full}
use Rattle.grid.proofs.Picked.{picked_pos}
use Rattle.patterns.proofs.Encode.{encode, bits_mono, bits_mono_le}
use Rattle.patterns.specs.Kind.{binary, InRange, highest, lowest}
use Rattle.patterns.specs.Value.{nan, inf, num, negative, float_value, value_of}
use Rattle.patterns.specs.Pattern.{with_sign, mag_bits, infinity}
use Rattle.grid.proofs.Int.{dn_neg, ints, up_neg}

-- ---- the value of the bits x below a sign
module _ (p w s : ℕ) (neg : Bool) (x : ℕ) where
  pub is_num : x < inf_bits p w → float_value p w s neg x ≡ num (signed neg (bits_mag p s x))
  is_num h = simp (lt-ltb x (inf_bits p w) h)

  pub is_inf : x ≡ inf_bits p w → float_value p w s neg x ≡ inf neg
  is_inf e = simp (le-ltb x (inf_bits p w) (omega arith), eq-eqb x (inf_bits p w) e)

  pub is_nan : inf_bits p w < x → float_value p w s neg x ≡ nan
  is_nan h = simp (le-ltb x (inf_bits p w) (omega arith), ne_eqb x (inf_bits p w) (λ (e : x ≡ inf_bits p w). omega arith))

-- ---- back from the value of a pattern
module _ (p w s b : ℕ) where
  pub infinity_sign : (neg : Bool) → value_of (binary p w s) b ≡ inf neg → neg ≡ negative (binary p w s) b
  unfolding value_of
  infinity_sign neg e = go (ltb (b % 2 ^ (w + p - 1)) (inf_bits p w)) (eqb (b % 2 ^ (w + p - 1)) (inf_bits p w)) e
    where
      go : (c d : Bool) → cond c (num (signed (negative (binary p w s) b) (bits_mag p s (b % 2 ^ (w + p - 1))))) (cond d (inf (negative (binary p w s) b)) nan) ≡ inf neg → neg ≡ negative (binary p w s) b
      go true d f = let z : ◌≡◌ {A = ℕ} 0 1 = cc in absurd (omega arith)
      go false true f = cc
      go false false f = let z : ◌≡◌ {A = ℕ} 0 1 = cc in absurd (omega arith)

  pub infinity_bits : (neg : Bool) → value_of (binary p w s) b ≡ inf neg → b % 2 ^ (w + p - 1) ≡ inf_bits p w
  unfolding value_of
  infinity_bits neg e = go (ltb (b % 2 ^ (w + p - 1)) (inf_bits p w)) (eqb (b % 2 ^ (w + p - 1)) (inf_bits p w)) refl e
    where
      go : (c d : Bool) → eqb (b % 2 ^ (w + p - 1)) (inf_bits p w) ≡ d → cond c (num (signed (negative (binary p w s) b) (bits_mag p s (b % 2 ^ (w + p - 1))))) (cond d (inf (negative (binary p w s) b)) nan) ≡ inf neg → b % 2 ^ (w + p - 1) ≡ inf_bits p w
      go true d h f = let z : ◌≡◌ {A = ℕ} 0 1 = cc in absurd (omega arith)
      go false true h f = eqb-true (b % 2 ^ (w + p - 1)) (inf_bits p w) h
      go false false h f = let z : ◌≡◌ {A = ℕ} 0 1 = cc in absurd (omega arith)

  pub nan_bits : value_of (binary p w s) b ≡ nan → inf_bits p w < b % 2 ^ (w + p - 1)
  unfolding value_of
  nan_bits e = go (ltb (b % 2 ^ (w + p - 1)) (inf_bits p w)) (eqb (b % 2 ^ (w + p - 1)) (inf_bits p w)) refl refl e
    where
      go : (c d : Bool) → ltb (b % 2 ^ (w + p - 1)) (inf_bits p w) ≡ c → eqb (b % 2 ^ (w + p - 1)) (inf_bits p w) ≡ d → cond c (num (signed (negative (binary p w s) b) (bits_mag p s (b % 2 ^ (w + p - 1))))) (cond d (inf (negative (binary p w s) b)) nan) ≡ nan → inf_bits p w < b % 2 ^ (w + p - 1)
      go true d g h f = let z : ◌≡◌ {A = ℕ} 0 1 = cc in absurd (omega arith)
      go false true g h f = let z : ◌≡◌ {A = ℕ} 0 1 = cc in absurd (omega arith)
      go false false g h f = omega (arith, ltb-false (b % 2 ^ (w + p - 1)) (inf_bits p w) g, eqb-false (b % 2 ^ (w + p - 1)) (inf_bits p w) h)

pub abs_signed : (neg : Bool) (m : ℕ) → nat_abs (signed neg m) ≡ m
abs_signed false m = refl
abs_signed true zero = refl
abs_signed true (suc m) = refl

module _ (p w s : ℕ) (two : 2 ≤ p) (some : 0 < w) where
  pub inf_lt : inf_bits p w < 2 ^ (w + p - 1)
  inf_lt = lt_of_lt_of_le (mul-lt-mul_of_pos_right {n = 2 ^ w} (omega (arith, pow_pos w)) (pow_pos (p - 1))) (le_of_eq (sym (pow-add 2 w (p - 1)) ∙ ap (λ (z : ℕ). 2 ^ z) (omega arith)))

  pub inf_pos : 0 < inf_bits p w
  inf_pos = le_trans (pow_pos (p - 1)) (le_trans (le_of_eq (sym (one-mul (2 ^ (p - 1))))) (mul-le-mul_right (2 ^ (p - 1)) (omega (arith, pow_mono {i = 1} {j = w} some))))

  -- ---- a sign over bits below it
  module _ (neg : Bool) (x : ℕ) (h : x < 2 ^ (w + p - 1)) where
    pub sign_is : negative (binary p w s) (with_sign (w + p) neg x) ≡ neg
    sign_is = go neg
      where
        go : (neg : Bool) → negative (binary p w s) (with_sign (w + p) neg x) ≡ neg
        go true = le-leb (2 ^ (w + p - 1)) (2 ^ (w + p - 1) + x) (omega arith)
        go false = lt-leb (2 ^ (w + p - 1)) x h

    pub below_is : with_sign (w + p) neg x % 2 ^ (w + p - 1) ≡ x
    below_is = go neg
      where
        go : (neg : Bool) → with_sign (w + p) neg x % 2 ^ (w + p - 1) ≡ x
        go true = ap (λ (z : ℕ). (z + x) % 2 ^ (w + p - 1)) (sym (one-mul (2 ^ (w + p - 1)))) ∙ digits_mod 1 h
        go false = mod-eq_of_lt h

    pub sign_lt : with_sign (w + p) neg x < 2 ^ (w + p)
    sign_lt = go neg
      where
        go : (neg : Bool) → with_sign (w + p) neg x < 2 ^ (w + p)
        go true = omega (arith, pow_twice_pred (w + p) (omega arith))
        go false = omega (arith, pow_twice_pred (w + p) (omega arith))

    pub read : value_of (binary p w s) (with_sign (w + p) neg x) ≡ float_value p w s neg x
    unfolding value_of
    read = ap₂ (float_value p w s) sign_is below_is

  -- ---- infinities
  pub inf_back : (neg : Bool) → value_of (binary p w s) (infinity p w neg) ≡ inf neg
  inf_back neg = read neg (inf_bits p w) inf_lt ∙ simp (le-ltb (inf_bits p w) (inf_bits p w) (omega arith), eq-eqb (inf_bits p w) (inf_bits p w) refl)

  pub inf_fits : (neg : Bool) → infinity p w neg < 2 ^ (w + p)
  inf_fits neg = sign_lt neg (inf_bits p w) inf_lt

  -- ---- NaNs: a fraction keeps an infinity's bits below the sign
  pub nan_lt : (q : ℕ) → q < 2 ^ (p - 1) → inf_bits p w + q < 2 ^ (w + p - 1)
  nan_lt q l =
      let a : suc (2 ^ w - 1) * 2 ^ (p - 1) ≡ 2 ^ (w + p - 1) = ap (λ (z : ℕ). z * 2 ^ (p - 1)) (suc_ones w) ∙ sym (pow-add 2 w (p - 1)) ∙ ap (λ (z : ℕ). 2 ^ z) (omega arith) in
      omega arith

  pub nan_back : (neg : Bool) (q : ℕ) → 0 < q → q < 2 ^ (p - 1) → value_of (binary p w s) (with_sign (w + p) neg (inf_bits p w + q)) ≡ nan
  nan_back neg q h l = read neg (inf_bits p w + q) (nan_lt q l) ∙ simp (le-ltb (inf_bits p w + q) (inf_bits p w) (omega arith), ne_eqb (inf_bits p w + q) (inf_bits p w) (λ (e : inf_bits p w + q ≡ inf_bits p w). omega arith))

  -- ---- a grid number's own bits
  module _ (m : ℕ) (on : OnMag (float p s) m) where
    pub whole_units : m / 2 ^ unit_exp (float p s) m * 2 ^ unit_exp (float p s) m ≡ m
    unfolding pick_mag
    whole_units = ap nat_abs ((picked_pos (float p s) two TowardsZero m).itself on)

    pub mag_back : bits_mag p s (mag_bits p s m) ≡ m
    mag_back =
        let e = unit_exp (float p s) m in
        encode p s (e - s) (m / 2 ^ e) (omega arith) (omega (arith, kept_lt p s m)) (λ (h : 0 < e - s). kept_full p s m two (omega arith))
        ∙ ap (λ (z : ℕ). m / 2 ^ e * 2 ^ z) (sub-add_cancel (le-max_left s (size m - p)))
        ∙ whole_units

    module _ (most : m ≤ bits_mag p s (inf_bits p w - 1)) where
      pub mag_lt : mag_bits p s m < inf_bits p w
      mag_lt = cut (mag_bits p s m) (inf_bits p w) (λ h. h)
          (λ (h : inf_bits p w ≤ mag_bits p s m). absurd (omega (arith, mag_back, bits_mono p s (inf_bits p w - 1) (mag_bits p s m) (omega (arith, inf_pos)))))

      pub number_back : (neg : Bool) → value_of (binary p w s) (with_sign (w + p) neg (mag_bits p s m)) ≡ num (signed neg m)
      number_back neg = read neg (mag_bits p s m) (omega (arith, mag_lt, inf_lt)) ∙ simp (lt-ltb (mag_bits p s m) (inf_bits p w) mag_lt, mag_back)

      pub number_fits : (neg : Bool) → with_sign (w + p) neg (mag_bits p s m) < 2 ^ (w + p)
      number_fits neg = sign_lt neg (mag_bits p s m) (omega (arith, mag_lt, inf_lt))

  -- ---- the number of a finite pattern
  pub finite_parts : (b : ℕ) (x : ℤ) → value_of (binary p w s) b ≡ num x → (b % 2 ^ (w + p - 1) < inf_bits p w) × (x ≡ signed (negative (binary p w s) b) (bits_mag p s (b % 2 ^ (w + p - 1))))
  unfolding value_of
  finite_parts b x is = go (ltb (b % 2 ^ (w + p - 1)) (inf_bits p w)) (eqb (b % 2 ^ (w + p - 1)) (inf_bits p w)) refl is
    where
      go : (c d : Bool) → ltb (b % 2 ^ (w + p - 1)) (inf_bits p w) ≡ c → cond c (num (signed (negative (binary p w s) b) (bits_mag p s (b % 2 ^ (w + p - 1))))) (cond d (inf (negative (binary p w s) b)) nan) ≡ num x
          → (b % 2 ^ (w + p - 1) < inf_bits p w) × (x ≡ signed (negative (binary p w s) b) (bits_mag p s (b % 2 ^ (w + p - 1))))
      go true d e f = (ltb-true (b % 2 ^ (w + p - 1)) (inf_bits p w) e, let g : signed (negative (binary p w s) b) (bits_mag p s (b % 2 ^ (w + p - 1))) ≡ x = cc in sym g)
      go false true e f = let z : ◌≡◌ {A = ℕ} 0 1 = cc in absurd (omega arith)
      go false false e f = let z : ◌≡◌ {A = ℕ} 0 1 = cc in absurd (omega arith)

  -- ---- bits are those of their own magnitude
  pub on_bits : (x : ℕ) → OnMag (float p s) (bits_mag p s x)
  unfolding bits_mag field_mag
  on_bits x = go (x / 2 ^ (p - 1)) (x % 2 ^ (p - 1)) (mod-lt x (pow_pos (p - 1)))
    where
      go : (f t : ℕ) → t < 2 ^ (p - 1) → OnMag (float p s) (field_mag p s f t)
      go zero t h = record { m = t; e = s; written = (omega (arith, pow_twice_pred p (omega arith)), omega arith, refl) }
      go (suc f) t h = record { m = 2 ^ (p - 1) + t; e = f + s; written = (omega (arith, pow_twice_pred p (omega arith)), omega arith, refl) }

  pub bits_again : (x : ℕ) → mag_bits p s (bits_mag p s x) ≡ x
  bits_again x =
      let y = mag_bits p s (bits_mag p s x) in
      let e : bits_mag p s y ≡ bits_mag p s x = mag_back (bits_mag p s x) (on_bits x) in
      cut y x (λ (h : y < x). absurd (omega (arith, bits_mono p s y x h))) (λ (h : x ≤ y). cut x y (λ (l : x < y). absurd (omega (arith, bits_mono p s x y l))) (λ (l : y ≤ x). omega arith))

  -- so equal magnitudes have equal bits
  pub same_bits : (x y : ℕ) → bits_mag p s x ≡ bits_mag p s y → x ≡ y
  same_bits x y e = sym (bits_again x) ∙ ap (mag_bits p s) e ∙ bits_again y

  pub signed_again : (b : ℕ) → b < 2 ^ (w + p) → with_sign (w + p) (negative (binary p w s) b) (b % 2 ^ (w + p - 1)) ≡ b
  signed_again b h = cut b (2 ^ (w + p - 1))
      (λ (l : b < 2 ^ (w + p - 1)). ap₂ (with_sign (w + p)) (lt-leb (2 ^ (w + p - 1)) b l) (mod-eq_of_lt l))
      (λ (l : 2 ^ (w + p - 1) ≤ b). ap₂ (with_sign (w + p)) (le-leb (2 ^ (w + p - 1)) b l) (mod-eq-sub-mod l ∙ mod-eq_of_lt (omega (arith, pow_twice_pred (w + p) (omega arith)))) ∙ omega arith)

  pub float_again : (b : ℕ) (y : ℤ) → b < 2 ^ (w + p) → value_of (binary p w s) b ≡ num y → with_sign (w + p) (negative (binary p w s) b) (mag_bits p s (nat_abs y)) ≡ b
  unfolding value_of
  float_again b y h e = go (ltb x (inf_bits p w)) (eqb x (inf_bits p w)) e
    where
      x : ℕ
      x = b % 2 ^ (w + p - 1)

      neg : Bool
      neg = negative (binary p w s) b

      go : (c d : Bool) → cond c (num (signed neg (bits_mag p s x))) (cond d (inf neg) nan) ≡ num y → with_sign (w + p) neg (mag_bits p s (nat_abs y)) ≡ b
      go true d e =
          let f : signed neg (bits_mag p s x) ≡ y = cc in
          ap (λ (z : ℕ). with_sign (w + p) neg (mag_bits p s z)) (ap nat_abs (sym f) ∙ abs_signed neg (bits_mag p s x)) ∙ ap (with_sign (w + p) neg) (bits_again x) ∙ signed_again b h
      go false true e = let z : ◌≡◌ {A = ℕ} 0 1 = cc in absurd (omega arith)
      go false false e = let z : ◌≡◌ {A = ℕ} 0 1 = cc in absurd (omega arith)

  -- ---- in range exactly below an infinity's bits
  pub bits_in_range : (neg : Bool) (r : ℕ) → r < inf_bits p w → InRange (binary p w s) (signed neg (bits_mag p s r))
  unfolding lowest highest
  bits_in_range neg r h = within neg (bits_mono_le p s r (inf_bits p w - 1) (omega arith))
    where
      within : (neg : Bool) {m M : ℕ} → m ≤ M → (neg_ℤ (pos M) ≤ℤ signed neg m) × (signed neg m ≤ℤ pos M)
      within true {m} {M} l = (omega (ints, up_neg (pos m), dn_neg (pos m), up_neg (pos M), dn_neg (pos M)), omega (ints, up_neg (pos m), dn_neg (pos m)))
      within false {m} {M} l = (omega (ints, up_neg (pos M), dn_neg (pos M)), omega ints)

  pub bits_past_range : (neg : Bool) (r : ℕ) → inf_bits p w ≤ r → InRange (binary p w s) (signed neg (bits_mag p s r)) → ⊥
  unfolding lowest highest
  bits_past_range neg r h = beyond neg (bits_mono p s (inf_bits p w - 1) r (omega (arith, inf_pos)))
    where
      beyond : (neg : Bool) {m M : ℕ} → M < m → (neg_ℤ (pos M) ≤ℤ signed neg m) × (signed neg m ≤ℤ pos M) → ⊥
      beyond true {m} {M} l k = omega (ints, k.0, up_neg (pos m), dn_neg (pos m), up_neg (pos M), dn_neg (pos M))
      beyond false {m} {M} l k = omega (ints, k.1)

  -- a finite pattern's number is on the grid and in range
  pub number_of_format : (b : ℕ) (x : ℤ) → value_of (binary p w s) b ≡ num x → OnGrid (float p s) x × InRange (binary p w s) x
  number_of_format b x is =
      let f = finite_parts b x is in
      let neg = negative (binary p w s) b in
      let r = b % 2 ^ (w + p - 1) in
      (subst (λ (z : ℤ). OnGrid (float p s) z) (sym f.1) (subst (λ (z : ℕ). OnMag (float p s) z) (sym (abs_signed neg (bits_mag p s r))) (on_bits r)), subst (λ (z : ℤ). InRange (binary p w s) z) (sym f.1) (bits_in_range neg r f.0))

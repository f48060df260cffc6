-- A float matches a key exactly where the patterns are equal, both are NaNs, or both are zeros: for any format.
use mathlib.Core.Path.{◌≡◌, refl, sym, ap, ap₂, ◌∙◌}
use mathlib.Core.Bool.{Bool, true, false, beq}
use Prim.Native.Nat.{ℕ, zero, suc, ◌+◌, ◌-◌, ◌*◌, ◌%◌, ◌^◌, ◌≤◌, ◌<◌}
use native.Mathlib.Nat.{mod-eq_of_lt, mod-eq-sub-mod}
use native.Mathlib.Omega.{arith}
use lib.Bits.{bit_and, bit_or, and_mask, or_zero_l, or_add_and, and_le_l, and_le_r}
use lib.Dec.{eqb, ltb, leb, lit<, lit≤}
use lib.IntN.{ℤ, pos, nat_abs}
use borrow.Author.Tests.{lt-ltb, le-ltb, eq-eqb, ne_eqb, leb-true, leb-false, eqb-true, eqb-false}
use Rattle.grid.specs.Round.{signed}
use Rattle.grid.proofs.Neighbours.{cut, pow_twice_pred}
use Rattle.patterns.specs.Float.{bits_mag, inf_bits}
use Rattle.patterns.specs.Kind.{binary, bits}
use Rattle.patterns.specs.Value.{nan, inf, num, float_value, value_of}
use Rattle.patterns.proofs.Encode.{zero_bits, bits_mono}
use Rattle.patterns.proofs.Floats.{abs_signed, inf_pos, same_bits}
use Rattle.kinds.specs.Row.{float_of, FloatRow}
use Rattle.kinds.specs.declared.FloatFormat.{FloatFormat}
use Rattle.kinds.proofs.FloatRows.{by_row}
use Rattle.cast_spec.specs.Element.{matches}
use Rattle.mapping.specs.Map.{FloatPatterns}
use Rattle.mapping.proofs.Equal.{equal_numbers, false_if_absurd}

-- ---- signs
signs_agree : (a b : Bool) → beq a b ≡ true → a ≡ b
signs_agree true true e = refl
signs_agree true false e = sym e
signs_agree false true e = e
signs_agree false false e = refl

-- a magnitude other than 0 has one sign
sign_only : (a b : Bool) (m k : ℕ) → 0 < m → signed a m ≡ signed b k → a ≡ b
sign_only true true m k h e = refl
sign_only false false m k h e = refl
sign_only true false zero k h e = absurd (omega arith)
sign_only true false (suc m) k h e = let z : ◌≡◌ {A = ℕ} 0 1 = cc in absurd (omega arith)
sign_only false true m zero h e = let z : m ≡ 0 = cc in absurd (omega arith)
sign_only false true m (suc k) h e = let z : ◌≡◌ {A = ℕ} 0 1 = cc in absurd (omega arith)

no_sign : (neg : Bool) → signed neg 0 ≡ pos 0
no_sign true = refl
no_sign false = refl

-- ---- a pattern is its sign's bit and the bits below it
parts_only : (n a b : ℕ) → a < 2 * n → b < 2 * n → leb n a ≡ leb n b → a % n ≡ b % n → a ≡ b
parts_only n a b f g = go (leb n a) (leb n b) refl refl
  where
    low : (a : ℕ) → leb n a ≡ false → a % n ≡ a
    low a e = mod-eq_of_lt (leb-false n a e)

    high : (a : ℕ) → a < 2 * n → leb n a ≡ true → a % n + n ≡ a
    high a h e = let l = leb-true n a e in ap (λ (z : ℕ). z + n) (mod-eq-sub-mod l ∙ mod-eq_of_lt (omega arith)) ∙ omega arith

    go : (s t : Bool) → leb n a ≡ s → leb n b ≡ t → s ≡ t → a % n ≡ b % n → a ≡ b
    go true true p q e h = omega (arith, high a f p, high b g q)
    go false false p q e h = omega (arith, low a p, low b q)
    go true false p q e h = let z : ◌≡◌ {A = ℕ} 0 1 = cc in absurd (omega arith)
    go false true p q e h = let z : ◌≡◌ {A = ℕ} 0 1 = cc in absurd (omega arith)

-- ---- two zeros
either_zero : (x k : ℕ) → bit_or x k ≡ 0 → (x ≡ 0) × (k ≡ 0)
either_zero x k e = (omega (arith, or_add_and x k, and_le_r x k), omega (arith, or_add_and x k, and_le_l x k))

-- ---- a float format of p significant bits, w bits of exponent field and smallest spacing 2^s
module _ (p w s : ℕ) (two : 2 ≤ p) (positive : 0 < w) where
  abbrev top : ℕ
  top = 2 ^ (w + p - 1)

  -- "Those of a finite number are less, those of a NaN more"
  finite : (neg : Bool) (x : ℕ) → x < inf_bits p w → float_value p w s neg x ≡ num (signed neg (bits_mag p s x))
  finite neg x h = simp (lt-ltb x (inf_bits p w) h)

  infinite : (neg : Bool) (x : ℕ) → x ≡ inf_bits p w → float_value p w s neg x ≡ inf neg
  infinite neg x h = simp (le-ltb x (inf_bits p w) (omega arith), eq-eqb x (inf_bits p w) h)

  no_number : (neg : Bool) (x : ℕ) → inf_bits p w < x → float_value p w s neg x ≡ nan
  no_number neg x h = simp (le-ltb x (inf_bits p w) (omega arith), ne_eqb x (inf_bits p w) (λ (e : x ≡ inf_bits p w). omega arith))

  -- a value by the bits below its sign
  by_bits {ℓ} : {C : Type ℓ} (x : ℕ) → (x < inf_bits p w → C) → (x ≡ inf_bits p w → C) → (inf_bits p w < x → C) → C
  by_bits x f g h = cut x (inf_bits p w) f (λ (l : inf_bits p w ≤ x). cut (inf_bits p w) x h (λ (k : x ≤ inf_bits p w). g (omega arith)))

  -- equal numbers have equal bits below the sign, and equal signs where those are not 0
  equal_floats : (a b : Bool) (x k : ℕ) → signed a (bits_mag p s x) ≡ signed b (bits_mag p s k) → x ≡ k
  equal_floats a b x k e = same_bits p w s two positive x k (sym (abs_signed a (bits_mag p s x)) ∙ ap nat_abs e ∙ abs_signed b (bits_mag p s k))

  equal_signs : (a b : Bool) (x k : ℕ) → 0 < x → signed a (bits_mag p s x) ≡ signed b (bits_mag p s k) → a ≡ b
  equal_signs a b x k h e = sign_only a b (bits_mag p s x) (bits_mag p s k) (omega (arith, zero_bits p s two, bits_mono p s 0 x h)) e

  -- ---- a NaN key matches every NaN, and nothing else
  nan_key : (a b : Bool) (x k : ℕ) → inf_bits p w < k → ltb (inf_bits p w) x ≡ matches (float_value p w s a x) (float_value p w s b k)
  nan_key a b x k h = by_bits x
      (λ l. le-ltb (inf_bits p w) x (omega arith) ∙ sym (ap₂ matches (finite a x l) (no_number b k h)))
      (λ l. le-ltb (inf_bits p w) x (omega arith) ∙ sym (ap₂ matches (infinite a x l) (no_number b k h)))
      (λ l. lt-ltb (inf_bits p w) x l ∙ sym (ap₂ matches (no_number a x l) (no_number b k h)))

  -- ---- any other key that is not the element's own pattern: only two zeros match
  module _ (a b : Bool) (x k : ℕ) (other : a ≡ b → x ≡ k → ⊥) where
    both_zero : x ≡ 0 → k ≡ 0 → true ≡ matches (num (signed a (bits_mag p s x))) (num (signed b (bits_mag p s k)))
    both_zero e f = sym (ap₂ (λ (y z : ℤ). matches (num y) (num z)) (zero_is a x e) (zero_is b k f))
      where
        zero_is : (a : Bool) (x : ℕ) → x ≡ 0 → signed a (bits_mag p s x) ≡ pos 0
        zero_is a x e = ap (signed a) (ap (bits_mag p s) e ∙ zero_bits p s two) ∙ no_sign a

    unequal : (bit_or x k ≡ 0 → ⊥) → matches (num (signed a (bits_mag p s x))) (num (signed b (bits_mag p s k))) ≡ false
    unequal some_bit = false_if_absurd _ (λ e.
        let f = equal_numbers _ _ e in
        let g : x ≡ k = equal_floats a b x k f in
        cut 0 x
        (λ (h : 0 < x). other (equal_signs a b x k h f) g)
        (λ (h : x ≤ 0). some_bit (ap₂ bit_or (none x h) (sym g ∙ none x h) ∙ or_zero_l 0)))
      where
        none : (x : ℕ) → x ≤ 0 → x ≡ 0
        none x h = omega arith

    numbers : (t : Bool) → eqb (bit_or x k) 0 ≡ t → t ≡ matches (num (signed a (bits_mag p s x))) (num (signed b (bits_mag p s k)))
    numbers true e = let z = either_zero x k (eqb-true (bit_or x k) 0 e) in both_zero z.0 z.1
    numbers false e = sym (unequal (eqb-false (bit_or x k) 0 e))

    some_bit : 0 < x + k → eqb (bit_or x k) 0 ≡ false
    some_bit h = ne_eqb (bit_or x k) 0 (λ (e : bit_or x k ≡ 0). let z = either_zero x k e in omega arith)

    other_key : k ≤ inf_bits p w → eqb (bit_or x k) 0 ≡ matches (float_value p w s a x) (float_value p w s b k)
    other_key h = cut k (inf_bits p w)
        (λ (l : k < inf_bits p w). by_bits x
        (λ m. numbers (eqb (bit_or x k) 0) refl ∙ sym (ap₂ matches (finite a x m) (finite b k l)))
        (λ m. some_bit (omega (arith, inf_pos p w s two positive)) ∙ sym (ap₂ matches (infinite a x m) (finite b k l)))
        (λ m. some_bit (omega arith) ∙ sym (ap₂ matches (no_number a x m) (finite b k l))))
        (λ (l : inf_bits p w ≤ k).
        let e : k ≡ inf_bits p w = omega arith in
        some_bit (omega (arith, inf_pos p w s two positive)) ∙ sym (by_bits x
        (λ m. ap₂ matches (finite a x m) (infinite b k e))
        (λ m. ap₂ matches (infinite a x m) (infinite b k e) ∙ false_if_absurd (beq a b) (λ f. other (signs_agree a b f) (m ∙ sym e)))
        (λ m. ap₂ matches (no_number a x m) (infinite b k e))))

  -- ---- whole patterns, with a mask and an infinity's bits that a program works out
  module _ (a key : ℕ) {m i : ℕ} (mask : m ≡ top) (infinity : i ≡ inf_bits p w) where
    low_bits : (b : ℕ) → bit_and b (m - 1) ≡ b % top
    low_bits b = ap (λ (z : ℕ). bit_and b (z - 1)) mask ∙ and_mask b (w + p - 1)

    pub nan_matches : i < bit_and key (m - 1) → ltb i (bit_and a (m - 1)) ≡ matches (value_of (binary p w s) a) (value_of (binary p w s) key)
    unfolding value_of
    nan_matches h = rw (low_bits a, infinity) (nan_key (leb top a) (leb top key) (a % top) (key % top) (rw (low_bits key, infinity) at h))

    pub zeros_match : a < 2 ^ (w + p) → key < 2 ^ (w + p) → (a ≡ key → ⊥) → bit_and key (m - 1) ≤ i → eqb (bit_or (bit_and a (m - 1)) (bit_and key (m - 1))) 0 ≡ matches (value_of (binary p w s) a) (value_of (binary p w s) key)
    unfolding value_of
    zeros_match fits key_fits other h =
        let half = pow_twice_pred (w + p) (omega arith) in
        rw (low_bits a, low_bits key)
        (other_key (leb top a) (leb top key) (a % top) (key % top) (λ e f. other (parts_only top a key (omega arith) (omega arith) e f)) (rw (low_bits key, infinity) at h))

-- ---- the formats of the table
abbrev Sizes : FloatFormat → Type 0
Sizes f = (2 ≤ f.precision) × (0 < f.exponent_bits) × (f.exponent_bits + f.precision ≤ 64)

row_sizes : (f : FloatFormat) → FloatRow f → Sizes f
row_sizes = by_row Sizes (lit≤ tt, lit< tt, lit≤ tt) (lit≤ tt, lit< tt, lit≤ tt) (lit≤ tt, lit< tt, lit≤ tt)

pub row_patterns : (f : FloatFormat) (a key : ℕ) → FloatRow f → a < 2 ^ bits (float_of f) → key < 2 ^ bits (float_of f) → FloatPatterns a key f.precision f.exponent_bits
row_patterns f a key row fits key_fits = let z = row_sizes f row in record { two = z.0; positive = z.1; at_most_64 = z.2; fits = fits; key_fits = key_fits }

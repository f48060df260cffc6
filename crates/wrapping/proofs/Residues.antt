-- The lowest bits of a whole number, from its magnitude and the wrapped difference of 0 and it.
use Rattle.std.proofs.Common.{◌≡◌, ℕ, zero, suc, ◌+◌, ◌-◌, ◌/◌, ◌%◌, ◌^◌, ◌<◌, ◌≤◌, Bool, true, false, cond, pos, neg_ℤ, sym, ap, ◌∙◌, mod-lt, mod-eq_of_lt, arith, pow_pos}
use native.Mathlib.Decide.{dec_le}
use native.Mathlib.Nat.{mod-eq-sub-mod, mod_self, add-mod, sub-zero, suc-mod}
use lib.Bits.{and_mask, bit_and}
use lib.Pow.{mod-mod-pow, ones_split, ones_lt, high}
use Rattle.grid.proofs.Neighbours.{cut}
use Rattle.patterns.specs.Pattern.{low_bits}
use Rattle.grid.specs.Round.{signed}

-- two remainders whose sum is a multiple of p
opposite : (p a b : ℕ) → a < p → b < p → (a + b) % p ≡ 0 → a ≡ (p - b) % p
opposite p a b ha hb e = go (dec_le p (a + b)) (dec_le b 0)
  where
    go : Dec (p ≤ a + b) → Dec (b ≤ 0) → a ≡ (p - b) % p
    go (yes l) (yes z) = omega arith
    go (yes l) (no z) =
        let s : a + b - p ≡ 0 = sym (mod-eq_of_lt {n = a + b - p} {m = p} (omega arith)) ∙ sym (mod-eq-sub-mod l) ∙ e in
        let d : p - b ≡ a = omega arith in
        sym (ap (λ (x : ℕ). x % p) d ∙ mod-eq_of_lt ha)
    go (no l) z =
        let s : a + b ≡ 0 = sym (mod-eq_of_lt {n = a + b} {m = p} (omega arith)) ∙ e in
        let d : p - b ≡ p = omega arith in
        let k : a ≡ 0 = omega arith in
        k ∙ sym (ap (λ (x : ℕ). x % p) d ∙ mod_self p)

pub residue : (n w m : ℕ) → n ≤ 64 → (w + m) % 2 ^ 64 ≡ 0 → w % 2 ^ n ≡ (2 ^ n - m % 2 ^ n) % 2 ^ n
residue n w m h e =
    let p = 2 ^ n in
    let split : 64 - n + n ≡ 64 = omega arith in
    let less : (w + m) % p ≡ 0 =
    sym (mod-mod-pow (w + m) (64 - n) n) ∙ ap (λ (k : ℕ). (w + m) % 2 ^ k % 2 ^ n) split ∙ ap (λ (k : ℕ). k % 2 ^ n) e ∙ mod-eq_of_lt (pow_pos n) in
    opposite p (w % p) (m % p) (mod-lt w (pow_pos n)) (mod-lt m (pow_pos n)) (sym (add-mod w m p) ∙ less)

mod_mod_le : (n m : ℕ) → n ≤ 64 → m % 2 ^ 64 % 2 ^ n ≡ m % 2 ^ n
mod_mod_le n m h = let e : 64 ≡ 64 - n + n = omega arith in ap (λ (k : ℕ). m % 2 ^ k % 2 ^ n) e ∙ mod-mod-pow m (64 - n) n

-- 64 ones with all but n shifted out
pub mask : (n : ℕ) → n ≤ 64 → (2 ^ 64 - 1) / 2 ^ (64 - n) ≡ 2 ^ n - 1
mask n h =
    let e : n + (64 - n) ≡ 64 = omega arith in
    ap (λ (k : ℕ). (2 ^ k - 1) / 2 ^ (64 - n)) (sym e) ∙ ap (λ (k : ℕ). k / 2 ^ (64 - n)) (ones_split n (64 - n)) ∙ high (2 ^ n - 1) (64 - n) (ones_lt (64 - n))

-- ---- the lowest bits of a negative number
minus_one : (n k : ℕ) → (2 ^ n - suc k % 2 ^ n) % 2 ^ n ≡ 2 ^ n - 1 - k % 2 ^ n
minus_one n k = cut (suc (k % p)) p
    (λ (l : suc (k % p) < p).
    let e : suc k % p ≡ suc (k % p) = next ∙ mod-eq_of_lt l in
    ap (λ (z : ℕ). (p - z) % p) e ∙ mod-eq_of_lt (omega arith) ∙ omega arith)
    (λ (l : p ≤ suc (k % p)).
    let f : suc (k % p) ≡ p = omega (arith, mod-lt k (pow_pos n)) in
    let e : suc k % p ≡ 0 = next ∙ ap (λ (z : ℕ). z % p) f ∙ mod_self p in
    ap (λ (z : ℕ). (p - z) % p) e ∙ ap (λ (z : ℕ). z % p) (sub-zero p) ∙ mod_self p ∙ omega arith)
  where
    p : ℕ
    p = 2 ^ n

    next : suc k % p ≡ suc (k % p) % p
    next = suc-mod k p

negative_bits : (n m : ℕ) → (2 ^ n - m % 2 ^ n) % 2 ^ n ≡ low_bits n (neg_ℤ (pos m))
negative_bits n zero = ap (λ (z : ℕ). (2 ^ n - z) % 2 ^ n) (mod-eq_of_lt (pow_pos n)) ∙ ap (λ (z : ℕ). z % 2 ^ n) (sub-zero (2 ^ n)) ∙ mod_self (2 ^ n) ∙ sym (mod-eq_of_lt (pow_pos n))
negative_bits n (suc k) = minus_one n k

-- by a mask of n ones
module _ (n : ℕ) (fits : n ≤ 64) where
  masked : (m : ℕ) → bit_and m ((2 ^ 64 - 1) / 2 ^ (64 - n)) ≡ m % 2 ^ n
  masked m = ap (bit_and m) (mask n fits) ∙ and_mask m n

  wrapped_negative : (w m : ℕ) → (w + m) % 2 ^ 64 ≡ 0 → bit_and w ((2 ^ 64 - 1) / 2 ^ (64 - n)) ≡ low_bits n (signed true m)
  wrapped_negative w m e = masked w ∙ residue n w m fits e ∙ negative_bits n m

  wrapped_positive : (m : ℕ) → bit_and m ((2 ^ 64 - 1) / 2 ^ (64 - n)) ≡ low_bits n (signed false m)
  wrapped_positive m = masked m

  pub wrapped : (neg : Bool) (w m : ℕ) → (w + m) % 2 ^ 64 ≡ 0 → bit_and (cond neg w m) ((2 ^ 64 - 1) / 2 ^ (64 - n)) ≡ low_bits n (signed neg m)
  wrapped true w m e = wrapped_negative w m e
  wrapped false w m e = wrapped_positive m

-- ---- a magnitude modulo 2^64 has the same lowest bits
pub low_bits_mod : (n : ℕ) (neg : Bool) (m : ℕ) → n ≤ 64 → low_bits n (signed neg (m % 2 ^ 64)) ≡ low_bits n (signed neg m)
low_bits_mod n false m h = mod_mod_le n m h
low_bits_mod n true m h = sym (negative_bits n (m % 2 ^ 64)) ∙ ap (λ (z : ℕ). (2 ^ n - z) % 2 ^ n) (mod_mod_le n m h) ∙ negative_bits n m

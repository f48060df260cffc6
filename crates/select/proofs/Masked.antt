-- A mask of all ones or of none takes a difference whole or not at all, so that a wrapped sum with it is one of two numbers.
use Rattle.std.proofs.Common.{◌≡◌, ℕ, ◌+◌, ◌-◌, ◌%◌, ◌^◌, ◌<◌, ◌≤◌, min, Bool, true, false, cond, not, T, ltb, ap, ◌∙◌, mod-eq_of_lt, arith, ltb→lt, nltb→le}
use lib.Bits.{bit_and, and_mask, and_zero_r}
use mir.Val.{bool_byte}

module _ (a b d k : ℕ) (ha : a < 2 ^ 64) (hd : d < 2 ^ 64) (hk : k < 2 ^ 64) (difference : (d + a) % 2 ^ 64 ≡ b) where
  pub masked : (s : Bool) → (k + bool_byte s) % 2 ^ 64 ≡ 0 → (a + bit_and d k) % 2 ^ 64 ≡ cond s b a
  masked false e =
      let zeros : k ≡ 0 = omega arith in
      ap (λ (x : ℕ). (a + bit_and d x) % 2 ^ 64) zeros ∙ ap (λ (x : ℕ). (a + x) % 2 ^ 64) (and_zero_r d) ∙ omega arith
  masked true e =
      let ones : k ≡ 2 ^ 64 - 1 = omega arith in
      ap (λ (x : ℕ). (a + bit_and d x) % 2 ^ 64) ones ∙ ap (λ (x : ℕ). (a + x) % 2 ^ 64) (and_mask d 64 ∙ mod-eq_of_lt hd) ∙ omega arith

pub lesser : (a b : ℕ) → cond (ltb b a) b a ≡ min a b
lesser a b = go (ltb b a) (ltb→lt b a) (nltb→le b a)
  where
    go : (c : Bool) → (T c → b < a) → (T (not c) → a ≤ b) → cond c b a ≡ min a b
    go true f g = let l = f tt in omega arith
    go false f g = let l = g tt in omega arith

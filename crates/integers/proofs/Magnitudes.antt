-- The sign and the magnitude of an integer kind's pattern: what a program computes, and that they are those of its number.
use Rattle.std.proofs.Common.{◌≡◌, ℕ, ◌+◌, ◌-◌, ◌*◌, ◌%◌, ◌^◌, ◌<◌, ◌≤◌, Bool, true, false, cond, leb, ◌⊎◌, sym, refl, ap, ◌∙◌, inl, inr, true≢false, one-mul, arith, lit<, pow_pos, pow_mono, shl_exact, leb-false, leb-true}
use borrow.Author.Tests.{lt-leb}
use Rattle.grid.specs.Round.{signed}
use Rattle.grid.proofs.Neighbours.{pow_twice_pred}
use Rattle.patterns.specs.Kind.{integer, high_int}
use Rattle.patterns.specs.Value.{num, negative, value_of}
use Rattle.integers.specs.declared.Integer.{Integer}
use Rattle.integers.specs.Magnitude.{magnitude_of}

-- ---- the sign and the magnitude are those of the number
pub magnitude_value : (s : Bool) (n b : ℕ) → value_of (integer s n) b ≡ num (signed (magnitude_of (integer s n) b).negative ((magnitude_of (integer s n) b).magnitude * 2 ^ 1074))
unfolding value_of magnitude_of
magnitude_value s n b = refl

-- ---- by the top bit
no_sign : (s : Bool) (n b : ℕ) → b < 2 ^ (n - 1) → negative (integer s n) b ≡ false
no_sign true n b h = lt-leb (2 ^ (n - 1)) b h
no_sign false n b h = refl

pub magnitude_of_low : (s : Bool) (n b : ℕ) → b < 2 ^ (n - 1) → magnitude_of (integer s n) b ≡ record { negative = false; magnitude = b }
unfolding magnitude_of
magnitude_of_low s n b h = ap {B = Integer} (λ (t : Bool). record { negative = t; magnitude = cond t (2 ^ n - b) b }) (no_sign s n b h)

-- zero is not negative
pub zero_not_negative : (s : Bool) (n : ℕ) → magnitude_of (integer s n) 0 ≡ record { negative = false; magnitude = 0 }
zero_not_negative s n = magnitude_of_low s n 0 (pow_pos (n - 1))

-- a number below zero is at most 2 ^ (n - 1) in size, and not 0; another is at most the highest
pub negative_bounds : (s : Bool) (n b : ℕ) → 0 < n → b < 2 ^ n → (magnitude_of (integer s n) b).negative ≡ true → (0 < (magnitude_of (integer s n) b).magnitude) × ((magnitude_of (integer s n) b).magnitude ≤ 2 ^ (n - 1))
unfolding magnitude_of
negative_bounds true n b some h e = rw e (let l = leb-true (2 ^ (n - 1)) b e in let d = pow_twice_pred n some in (omega arith, omega arith))
negative_bounds false n b some h e = let z : ◌≡◌ {A = ℕ} 0 1 = cc in absurd (omega arith)

pub positive_bound : (s : Bool) (n b : ℕ) → b < 2 ^ n → (magnitude_of (integer s n) b).negative ≡ false → (magnitude_of (integer s n) b).magnitude ≤ high_int s n
unfolding magnitude_of
positive_bound true n b h e = rw e (omega (arith, leb-false (2 ^ (n - 1)) b e))
positive_bound false n b h e = omega arith

-- ---- what a program computes from the sign and the bits of the kind
module _ (n : ℕ) (some : 0 < n) (most : n ≤ 64) where
  pub half_is : 1 * 2 ^ (n - 1) % 2 ^ 64 ≡ 2 ^ (n - 1)
  half_is = shl_exact 1 (n - 1) 64 (lit< tt) (omega arith) ∙ one-mul (2 ^ (n - 1))

  -- a wrapped difference of a number and one that is no greater
  difference : (d a b : ℕ) → d < 2 ^ 64 → (d + a) % 2 ^ 64 ≡ b → a ≤ b → d ≡ b - a
  difference d a b h e l = omega arith

  -- the sign is told by half of 2^n
  sign_told : (s : Bool) (b half : ℕ) (neg : Bool) → half ≡ 2 ^ (n - 1) → ((s ≡ true) × (neg ≡ leb half b)) ⊎ ((s ≡ false) × (neg ≡ false)) → (neg ≡ negative (integer s n) b) × (neg ≡ true → half ≤ b)
  sign_told s b half neg h (inl w) = (w.1 ∙ ap (λ (z : ℕ). leb z b) h ∙ ap (λ (t : Bool). negative (integer t n) b) (sym w.0), λ (e : neg ≡ true). leb-true half b (sym w.1 ∙ e))
  sign_told s b half neg h (inr w) = (w.1 ∙ ap (λ (t : Bool). negative (integer t n) b) (sym w.0), λ (e : neg ≡ true). absurd (true≢false (sym e ∙ w.1)))

  -- below zero the magnitude is half less what b exceeds it by; both differences are wrapped ones
  pub magnitude_is : (s : Bool) (b half above opposite : ℕ) (neg : Bool) (m : ℕ) → half ≡ 2 ^ (n - 1) → b < 2 ^ n → above < 2 ^ 64 → opposite < 2 ^ 64 → (above + half) % 2 ^ 64 ≡ b → (opposite + above) % 2 ^ 64 ≡ half
      → ((s ≡ true) × (neg ≡ leb half b)) ⊎ ((s ≡ false) × (neg ≡ false)) → m ≡ cond neg opposite b → record { negative = neg; magnitude = m } ≡ magnitude_of (integer s n) b
  unfolding magnitude_of
  magnitude_is s b half above opposite neg m h fits la lo ea eo w em =
      let told = sign_told s b half neg h w in
      ap {B = Integer} (λ (z : ℕ). record { negative = neg; magnitude = z }) (em ∙ go neg told.1)
      ∙ ap {B = Integer} (λ (t : Bool). record { negative = t; magnitude = cond t (2 ^ n - b) b }) told.0
    where
      go : (t : Bool) → (t ≡ true → half ≤ b) → cond t opposite b ≡ cond t (2 ^ n - b) b
      go false f = refl
      go true f =
          let reached = f refl in
          let twice : 2 ^ n ≡ half + half = omega (arith, pow_twice_pred n some) in
          let word : 2 ^ n ≤ 2 ^ 64 = pow_mono most in
          let ia = difference above half b la ea reached in
          difference opposite above half lo eo (omega arith) ∙ omega arith

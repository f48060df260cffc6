-- The bits of a finite float, `lib.Ieee.to_bits`, are the pattern of its number and its sign, at a zero too. Once for both formats.
use mathlib.Core.Path.{◌≡◌, refl, sym, ap, ap₂, ◌∙◌}
use mathlib.Core.Bool.{Bool, true, false, not, cond}
use Prim.Native.Nat.{ℕ, zero, suc, ◌+◌, ◌-◌, ◌*◌, ◌/◌, ◌^◌, ◌≤◌, max}
use native.Mathlib.Nat.{mul_assoc, mul-one, mul_right_comm, mul-div-mul_right, mul-div_cancel, zero-mul}
use native.Mathlib.Omega.{arith}
use lib.Dec.{T}
use lib.Ieee.{Float, nan, inf, fin, Format, binary32, binary64, prec, low, hid, top, up, down, size, is_nan, to_bits}
use lib.Ieee.Digits.{size-le}
use lib.Ieee.Exact.{HasValue}
use lib.Ieee.Fits.{down_pos}
use lib.IntN.{ℤ}
use lib.Pow.{pow_pos, pow-add}
use Rattle.grid.specs.Round.{signed}
use Rattle.grid.proofs.Kept.{size_shift}
use Rattle.patterns.specs.Kind.{binary}
use Rattle.patterns.specs.Pattern.{with_sign, mag_bits, pattern_of}
use Rattle.patterns.proofs.Floats.{abs_signed}
use Rattle.patterns.proofs.Ieee.{kind_for}

-- the exponent of a format's smallest number, counted from 2^-1074
abbrev pub spacing : Format → ℕ
spacing binary32 = 925
spacing binary64 = 0

low_spacing : (f : Format) → low f + spacing f ≡ 1074
low_spacing binary32 = refl
low_spacing binary64 = refl

-- ---- the bits below the sign, of a of the smallest numbers
unit_exponent : (p s a : ℕ) → max s (size (a * 2 ^ s) - p) ≡ size a - p + s
unit_exponent p s zero = ap (λ (z : ℕ). max s (size z - p)) (zero-mul (2 ^ s)) ∙ none (size 0) (size-le 0 0 (omega arith))
  where
    none : (z : ℕ) → z ≤ 0 → max s (z - p) ≡ z - p + s
    none z h = omega arith
unit_exponent p s (suc a) = ap (λ (z : ℕ). max s (z - p)) (size_shift (suc a) s (omega arith)) ∙ more (size (suc a))
  where
    more : (z : ℕ) → max s (z + s - p) ≡ z - p + s
    more z = omega arith

mag_bits_is : (p s a : ℕ) → mag_bits p s (a * 2 ^ s) ≡ (size a - p) * 2 ^ (p - 1) + a / 2 ^ (size a - p)
mag_bits_is p s a =
    let k = size a - p in
    ap (λ (e : ℕ). (e - s) * 2 ^ (p - 1) + a * 2 ^ s / 2 ^ e) (unit_exponent p s a)
    ∙ ap₂ (λ (x y : ℕ). x * 2 ^ (p - 1) + y) (over k) (ap (λ (z : ℕ). a * 2 ^ s / z) (pow-add 2 k s) ∙ mul-div-mul_right a (2 ^ k) (pow_pos s))
  where
    over : (k : ℕ) → k + s - s ≡ k
    over k = omega arith

-- ---- the language's bits
to_bits_is : (f : Format) (t : Bool) (m : ℕ) (e : ℤ) (a : ℕ) → m * up e * 2 ^ low f ≡ a * down e → to_bits f (fin t m e) ≡ cond t (top f) 0 + (size a - prec f) * hid f + a / 2 ^ (size a - prec f)
unfolding to_bits
to_bits_is f t m e a h = ap (λ (n : ℕ). cond t (top f) 0 + (size n - prec f) * hid f + n / 2 ^ (size n - prec f)) (ap (λ (z : ℕ). z / down e) h ∙ mul-div_cancel a (down_pos e))

over_sign : (t : Bool) (w x y : ℕ) → cond t w 0 + x + y ≡ cond t (w + (x + y)) (x + y)
over_sign true w x y = omega arith
over_sign false w x y = omega arith

bits_are : (f : Format) (w s : ℕ) → top f ≡ 2 ^ (w + prec f - 1) → (t : Bool) (m : ℕ) (e : ℤ) (a : ℕ) → m * up e * 2 ^ low f ≡ a * down e
    → to_bits f (fin t m e) ≡ pattern_of (binary (prec f) w s) t (signed t (a * 2 ^ s))
unfolding pattern_of
bits_are f w s T t m e a h =
    to_bits_is f t m e a h
    ∙ over_sign t (top f) ((size a - prec f) * hid f) (a / 2 ^ (size a - prec f))
    ∙ ap (λ (z : ℕ). cond t (z + ((size a - prec f) * hid f + a / 2 ^ (size a - prec f))) ((size a - prec f) * hid f + a / 2 ^ (size a - prec f))) T
    ∙ ap (with_sign (w + prec f) t) (sym (ap (mag_bits (prec f) s) (abs_signed t (a * 2 ^ s)) ∙ mag_bits_is (prec f) s a))

-- x is a of the format's smallest numbers
pub to_bits_of_units : (f : Format) (x : Float) (s : Bool) (a : ℕ) → HasValue x s a (2 ^ low f) → to_bits f x ≡ pattern_of (kind_for f) s (signed s (a * 2 ^ spacing f))
to_bits_of_units f nan s a h = absurd h
to_bits_of_units f (inf t) s a h = absurd h
to_bits_of_units f (fin t m e) s a h = go f h.1 ∙ ap (λ (z : Bool). pattern_of (kind_for f) z (signed z (a * 2 ^ spacing f))) h.0
  where
    go : (f : Format) → m * up e * 2 ^ low f ≡ a * down e → to_bits f (fin t m e) ≡ pattern_of (kind_for f) t (signed t (a * 2 ^ spacing f))
    go binary32 h = bits_are binary32 8 925 refl t m e a h
    go binary64 h = bits_are binary64 11 0 refl t m e a h

-- ---- a whole number
in_units : (x : Float) (s : Bool) (n l : ℕ) → HasValue x s n 1 → HasValue x s (n * 2 ^ l) (2 ^ l)
in_units nan s n l h = absurd h
in_units (inf t) s n l h = absurd h
in_units (fin t m e) s n l h = (h.0, ap (λ (z : ℕ). z * 2 ^ l) (sym (mul-one (m * up e)) ∙ h.1) ∙ mul_right_comm n (down e) (2 ^ l))

to_bits_of_whole : (f : Format) (x : Float) (s : Bool) (n : ℕ) → HasValue x s n 1 → to_bits f x ≡ pattern_of (kind_for f) s (signed s (n * 2 ^ 1074))
to_bits_of_whole f x s n h =
    to_bits_of_units f x s (n * 2 ^ low f) (in_units x s n (low f) h)
    ∙ ap (λ (z : ℕ). pattern_of (kind_for f) s (signed s z)) (together n (low f) (spacing f) 1074 (low_spacing f))
  where
    together : (n l d k : ℕ) → l + d ≡ k → n * 2 ^ l * 2 ^ d ≡ n * 2 ^ k
    together n l d k e = mul_assoc n (2 ^ l) (2 ^ d) ∙ ap (λ (z : ℕ). n * z) (sym (pow-add 2 l d) ∙ ap (λ (z : ℕ). 2 ^ z) e)

-- its bits below the sign, where it is not below zero
pub whole_bits : (x : Float) (n : ℕ) → HasValue x false n 1 → to_bits binary64 x ≡ mag_bits 53 0 (n * 2 ^ 1074)
unfolding pattern_of
whole_bits x n h = to_bits_of_whole binary64 x false n h

-- ---- a float with a value is no NaN
pub valued_no_nan : (x : Float) (s : Bool) (n d : ℕ) → HasValue x s n d → T (not (is_nan x))
unfolding is_nan
valued_no_nan nan s n d h = absurd h
valued_no_nan (inf t) s n d h = tt
valued_no_nan (fin t m e) s n d h = tt

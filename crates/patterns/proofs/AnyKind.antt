-- Any kind: the sign of a pattern is that of its number, and a number of the kind's range and grid has one pattern of each sign.
use mathlib.Core.Path.{◌≡◌, refl, sym, ap, subst, ◌∙◌}
use mathlib.Core.Bool.{Bool, true, false, cond}
use Prim.Native.Nat.{ℕ, ◌+◌, ◌-◌, ◌*◌, ◌%◌, ◌^◌, ◌≤◌, ◌<◌, suc, zero}
use native.Mathlib.Nat.{zero-mul}
use native.Mathlib.Omega.{arith}
use lib.Dec.{ltb, eqb}
use lib.IntN.{ℤ, pos, neg_ℤ, nat_abs}
use lib.Pow.{pow_pos}
use lib.Signed.{◌≤ℤ◌, shr_z, ≤ℤ_refl}
use Rattle.grid.specs.Grid.{Grid, whole, OnGrid, Sound, OnMag}
use Rattle.grid.specs.declared.RoundingMode.{RoundingMode}
use Rattle.grid.specs.Round.{pick, signed}
use Rattle.patterns.specs.Float.{bits_mag, inf_bits}
use Rattle.grid.proofs.Int.{ints, up_neg, dn_neg, abs_is, one_part}
use Rattle.grid.proofs.Kept.{pick_signed}
use Rattle.patterns.specs.Kind.{Kind, integer, binary, grid_of, bits, lowest, highest, InRange, WellFormed, high_int}
use Rattle.patterns.specs.Value.{nan, inf, num, negative, float_value, value_of}
use Rattle.patterns.specs.Pattern.{low_bits, with_sign, mag_bits, pattern_of}
use Rattle.patterns.proofs.Integers.{low_in, again, back, low_bits_lt, value_in}
use Rattle.patterns.proofs.Floats.{abs_signed, float_again, number_back, number_fits}
use Rattle.patterns.proofs.Integers as integers
use Rattle.patterns.proofs.Floats as floats

pub sound : (k : Kind) → WellFormed k → Sound (grid_of k)
sound (integer s n) ok = tt
sound (binary p w s) ok = ok.0

-- ---- the sign
signs : (neg : Bool) (m : ℕ) (x : ℤ) → num (signed neg m) ≡ num x → x ≡ signed neg (nat_abs x)
signs neg m x e =
    let f : signed neg m ≡ x = cc in
    sym f ∙ ap (signed neg) (sym (abs_signed neg m) ∙ ap nat_abs f)

pub sign_of : (k : Kind) (b : ℕ) (x : ℤ) → value_of k b ≡ num x → x ≡ signed (negative k b) (nat_abs x)
unfolding value_of
sign_of (integer s n) b x e = signs (negative (integer s n) b) _ x e
sign_of (binary p w s) b x e = go (b % 2 ^ (w + p - 1)) (negative (binary p w s) b) e
  where
    go : (m : ℕ) (neg : Bool) → float_value p w s neg m ≡ num x → x ≡ signed neg (nat_abs x)
    go m neg e = by (ltb m (inf_bits p w)) (eqb m (inf_bits p w)) e
      where
        by : (c d : Bool) → cond c (num (signed neg (bits_mag p s m))) (cond d (inf neg) nan) ≡ num x → x ≡ signed neg (nat_abs x)
        by true d e = signs neg (bits_mag p s m) x e
        by false true e = let z : ◌≡◌ {A = ℕ} 0 1 = cc in absurd (omega arith)
        by false false e = let z : ◌≡◌ {A = ℕ} 0 1 = cc in absurd (omega arith)

pub pick_sign : (g : Grid) → Sound g → (r : RoundingMode) (neg : Bool) (x : ℤ) → x ≡ signed neg (nat_abs x) → pick g r x ≡ signed neg (nat_abs (pick g r x))
pick_sign g ok r neg x e =
    let f = ap (pick g r) e ∙ pick_signed g ok r neg (nat_abs x) in
    f ∙ ap (signed neg) (sym (abs_signed neg _) ∙ ap nat_abs (sym f))

-- ---- the ends lie about zero
under : (m : ℕ) → neg_ℤ (pos m) ≤ℤ pos 0
under m = omega (ints, up_neg (pos m), dn_neg (pos m))

over : (m : ℕ) → pos 0 ≤ℤ pos m
over m = omega ints

pub low_zero : (k : Kind) → lowest k ≤ℤ pos 0
unfolding lowest
low_zero (integer true n) = under (2 ^ (n - 1) * 2 ^ 1074)
low_zero (integer false n) = ≤ℤ_refl (pos 0)
low_zero (binary p w s) = under (bits_mag p s (inf_bits p w - 1))

pub high_zero : (k : Kind) → pos 0 ≤ℤ highest k
unfolding highest
high_zero (integer s n) = over (high_int s n * 2 ^ 1074)
high_zero (binary p w s) = over (bits_mag p s (inf_bits p w - 1))

-- ---- the ends of an integer kind are on its grid and in its range
pub ends_meet : (k : Kind) → lowest k ≤ℤ highest k
ends_meet k = omega (ints, low_zero k, high_zero k)

on_unit : (m : ℕ) → OnMag (whole 1074) (m * 2 ^ 1074)
on_unit m = record { m = m; e = 1074; written = (refl, refl) }

abs_neg : (m : ℕ) → nat_abs (neg_ℤ (pos m)) ≡ m
abs_neg zero = refl
abs_neg (suc m) = refl

pub low_on : (s : Bool) (n : ℕ) → OnGrid (whole 1074) (lowest (integer s n))
unfolding lowest
low_on true n = subst (λ (z : ℕ). OnMag (whole 1074) z) (sym (abs_neg (2 ^ (n - 1) * 2 ^ 1074))) (on_unit (2 ^ (n - 1)))
low_on false n = subst (λ (z : ℕ). OnMag (whole 1074) z) (zero-mul (2 ^ 1074)) (on_unit 0)

pub high_on : (s : Bool) (n : ℕ) → OnGrid (whole 1074) (highest (integer s n))
unfolding highest
high_on s n = on_unit (high_int s n)

-- ---- the number of a pattern that is stored
pub lowest_in : (s : Bool) (n : ℕ) → lowest (integer s n) ≡ low_in s n (2 ^ 1074)
unfolding lowest
lowest_in true n = refl
lowest_in false n = refl

pub unit_pos : 0 < 2 ^ 1074
unit_pos = pow_pos 1074

pub multiple : (y : ℤ) → OnGrid (whole 1074) y → (q : ℕ) × (nat_abs y ≡ q * 2 ^ 1074)
multiple y on = (on.m, on.written.1 ∙ ap (λ (z : ℕ). on.m * 2 ^ z) on.written.0)

pub int_back : (s : Bool) (n : ℕ) (neg : Bool) (y : ℤ) → 0 < n → OnGrid (whole 1074) y → InRange (integer s n) y → value_of (integer s n) (pattern_of (integer s n) neg y) ≡ num y
unfolding value_of pattern_of highest
int_back s n neg y ok on h =
    let m = multiple y on in
    ap num (integers.back s n (2 ^ 1074) ok unit_pos y m.0 m.1 (subst (λ (z : ℤ). z ≤ℤ y) (lowest_in s n) h.0) h.1)

pub int_fits : (s : Bool) (n : ℕ) (neg : Bool) (y : ℤ) → 0 < n → pattern_of (integer s n) neg y < 2 ^ n
unfolding pattern_of
int_fits s n neg y ok = integers.low_bits_lt s n (2 ^ 1074) ok unit_pos (shr_z y (2 ^ 1074))

-- a whole number's pattern is its lowest bits
pub whole_pattern : (s : Bool) (n : ℕ) (neg t : Bool) (M : ℕ) → pattern_of (integer s n) t (signed neg (M * 2 ^ 1074)) ≡ low_bits n (signed neg M)
unfolding pattern_of
whole_pattern s n neg t M = ap (low_bits n) (integers.over_unit neg M (2 ^ 1074) unit_pos)

abs_le : (M : ℕ) (y : ℤ) → neg_ℤ (pos M) ≤ℤ y → y ≤ℤ pos M → nat_abs y ≤ M
abs_le M y l h = omega (ints, abs_is y, one_part y, up_neg (pos M), dn_neg (pos M))

pub largest_bits : (p w s : ℕ) (y : ℤ) → InRange (binary p w s) y → nat_abs y ≤ bits_mag p s (inf_bits p w - 1)
unfolding lowest highest
largest_bits p w s y h = abs_le (bits_mag p s (inf_bits p w - 1)) y h.0 h.1

pub abs_in_range : (p w s : ℕ) (y : ℤ) → nat_abs y ≤ bits_mag p s (inf_bits p w - 1) → InRange (binary p w s) y
unfolding lowest highest
abs_in_range p w s y h = between (bits_mag p s (inf_bits p w - 1)) h
  where
    between : (M : ℕ) → nat_abs y ≤ M → (neg_ℤ (pos M) ≤ℤ y) × (y ≤ℤ pos M)
    between M h = (omega (ints, abs_is y, up_neg (pos M), dn_neg (pos M)), omega (ints, abs_is y))

pub pattern_back : (k : Kind) (neg : Bool) (y : ℤ) → WellFormed k → OnGrid (grid_of k) y → InRange k y → y ≡ signed neg (nat_abs y) → value_of k (pattern_of k neg y) ≡ num y
unfolding pattern_of
pattern_back (integer s n) neg y ok on h e = int_back s n neg y ok on h
pattern_back (binary p w s) neg y ok on h e = floats.number_back p w s ok.0 ok.1 (nat_abs y) on (largest_bits p w s y h) neg ∙ ap num (sym e)

pub pattern_fits : (k : Kind) (neg : Bool) (y : ℤ) → WellFormed k → OnGrid (grid_of k) y → InRange k y → pattern_of k neg y < 2 ^ bits k
unfolding pattern_of
pattern_fits (integer s n) neg y ok on h = int_fits s n neg y ok
pattern_fits (binary p w s) neg y ok on h = floats.number_fits p w s ok.0 ok.1 (nat_abs y) on (largest_bits p w s y h) neg

-- ---- a pattern with the number y and the sign neg is the one that `pattern_of` gives
pub pattern_only : (k : Kind) (b : ℕ) (neg : Bool) (y : ℤ) → WellFormed k → b < 2 ^ bits k → value_of k b ≡ num y → negative k b ≡ neg → b ≡ pattern_of k neg y
unfolding pattern_of value_of
pattern_only (integer s n) b neg y ok h e f =
    let v : integers.value_in s n (2 ^ 1074) b ≡ y = cc in
    sym (ap (λ (z : ℤ). low_bits n (shr_z z (2 ^ 1074))) (sym v) ∙ integers.again s n (2 ^ 1074) ok unit_pos b h)
pattern_only (binary p w s) b neg y ok h e f = sym (ap (λ (t : Bool). with_sign (w + p) t (mag_bits p s (nat_abs y))) (sym f) ∙ floats.float_again p w s ok.0 ok.1 b y h e)

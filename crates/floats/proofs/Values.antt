-- A float element has its pattern's value, is canonical, and is written as the f64 that the papers give it: for any format within f64's.
use mathlib.Core.Path.{◌≡◌, refl, sym, ap, ap₂, subst, ◌∙◌}
use mathlib.Core.Bool.{Bool}
use mathlib.Core.Logic.{⊎_elim}
use Prim.Native.Nat.{ℕ, ◌+◌, ◌-◌, ◌*◌, ◌%◌, ◌^◌, ◌≤◌, ◌<◌}
use native.Mathlib.Nat.{le_of_eq, le_trans, lt_of_lt_of_le, mod-lt}
use native.Mathlib.Omega.{arith}
use lib.Dec.{lit<, lit≤}
use lib.IntN.{ℤ, nat_abs}
use borrow.Author.Tests.{ne_eqb}
use Rattle.grid.specs.Grid.{OnMag, float}
use Rattle.grid.specs.Round.{signed}
use Rattle.grid.specs.declared.RoundingMode.TheVariants.{NearestEven}
use Rattle.grid.proofs.Neighbours.{cut, finer}
use Rattle.grid.proofs.Picked.{pick_own}
use Rattle.patterns.specs.Float.{bits_mag, inf_bits}
use Rattle.patterns.specs.Kind.{Kind, binary, f16, f32, f64}
use Rattle.patterns.specs.Value.{Value, nan, inf, num, negative, value_of}
use Rattle.patterns.specs.Pattern.{as_f64, as_f64_from, mag_bits, nan_pattern, pattern_of, with_sign}
use Rattle.patterns.proofs.AnyKind.{largest_bits, sign_of}
use Rattle.patterns.proofs.Floats.{infinity_sign, mag_lt, nan_bits, number_of_format, signed_again}
use Rattle.float_fields.specs.Format.{Format}
use Rattle.float_fields.specs.Formats.{f16_within_f64, f32_within_f64, f64_format}
use Rattle.scaled.specs.Scaled.{scaled_of}
use Rattle.scaled.specs.declared.Scaled.{Scaled}
use Rattle.scaled.proofs.Magnitudes.{scaled_bits, scaled_leading, scaled_small, scaled_whole}
use Rattle.floats.specs.declared.Float.{Float}
use Rattle.floats.specs.Form.{CanonicalClass, class_bits, class_for, f64_of, float_of}
use Rattle.floats.specs.declared.Class.TheVariants.{Finite}
use Rattle.floats.proofs.Forms.{quiet_fraction}

-- ---- a number of f64 by its highest bits is canonical
module _ (n : ℕ) (on : OnMag (float 53 0) n) (most : n ≤ bits_mag 53 0 (inf_bits 53 11 - 1)) where
  pub scaled_canonical : CanonicalClass (Finite (scaled_of n))
  scaled_canonical = record { small = scaled_small n; leading = scaled_leading n; finite = below (scaled_of n).exponent (scaled_of n).significand (scaled_leading n) (subst (λ (z : ℕ). z < inf_bits 53 11) (sym (scaled_bits n on)) (mag_lt 53 11 0 (lit≤ tt) (lit< tt) n on most)) }
    where
      below : (e m : ℕ) → (0 < e → 2 ^ 52 ≤ m) → e * 2 ^ 52 + m < inf_bits 53 11 → e < 2046
      below e m l h = cut e 2046 (λ k. k) (λ (k : 2046 ≤ e). absurd (omega (arith, l (omega arith))))

-- the fraction of the f64 that stands for a NaN, and that f64
record NanForm (k : Kind) (b : ℕ) : Type 0 where
  pub positive : 0 < nan_pattern k 53 11 b % 2 ^ 52
  pub pattern : with_sign 64 (negative k b) (inf_bits 53 11 + nan_pattern k 53 11 b % 2 ^ 52) ≡ nan_pattern k 53 11 b

-- the form of a pattern
pub record Formed (k : Kind) (b : ℕ) : Type 0 where
  pub canonical : CanonicalClass (float_of k b).class
  pub written : f64_of (float_of k b) ≡ as_f64 k b
  pub number : (x : ℤ) → value_of k b ≡ num x → signed (negative k b) ((scaled_of (nat_abs x)).significand * 2 ^ (scaled_of (nat_abs x)).exponent) ≡ x

-- ---- the form of a pattern whose numbers are numbers of f64
module _ (p w s : ℕ) (two : 2 ≤ p) (some : 0 < w) (most : p ≤ 53) (room : bits_mag p s (inf_bits p w - 1) ≤ bits_mag 53 0 (inf_bits 53 11 - 1)) (b : ℕ) where
  abbrev k : Kind
  k = binary p w s

  abbrev neg : Bool
  neg = negative k b

  on_f64 : (x : ℤ) → value_of k b ≡ num x → OnMag (float 53 0) (nat_abs x)
  on_f64 x e = finer p s 53 0 (nat_abs x) most (omega arith) (number_of_format p w s two some b x e).0

  in_f64 : (x : ℤ) → value_of k b ≡ num x → nat_abs x ≤ bits_mag 53 0 (inf_bits 53 11 - 1)
  in_f64 x e = le_trans (largest_bits p w s x (number_of_format p w s two some b x e).1) room

  pub finite_value : (m : Scaled) → (float_of k b).class ≡ Finite m → value_of k b ≡ num (signed (negative k b) (m.significand * 2 ^ m.exponent))
  finite_value m e = go (value_of k b) refl e
    where
      go : (v : Value) → value_of k b ≡ v → class_for k b v ≡ Finite m → v ≡ num (signed neg (m.significand * 2 ^ m.exponent))
      go (num x) v c =
          let f : scaled_of (nat_abs x) ≡ m = cc in
          ap num (sign_of k b x v ∙ ap (signed neg) (sym (scaled_whole (nat_abs x) (on_f64 x v)) ∙ ap (λ (z : Scaled). z.significand * 2 ^ z.exponent) f))
      go (inf n) v c = let z : ◌≡◌ {A = ℕ} 0 1 = cc in absurd (omega arith)
      go nan v c = let z : ◌≡◌ {A = ℕ} 0 1 = cc in absurd (omega arith)

  -- the same of an element that was read of the pattern
  pub read_value : (x : Float) → x ≡ float_of k b → (m : Scaled) → x.class ≡ Finite m → value_of k b ≡ num (signed x.negative (m.significand * 2 ^ m.exponent))
  read_value x is m finite =
      finite_value m (sym (ap (λ (f : Float). f.class) is) ∙ finite)
      ∙ ap (λ (f : Float). num (signed f.negative (m.significand * 2 ^ m.exponent))) (sym is)

  formed : (value_of k b ≡ nan → NanForm k b) → Formed k b
  unfolding pattern_of
  formed nans = record {
    canonical = canonical (value_of k b) refl;
    written = written (value_of k b) refl;
    number = λ x e. ap (signed neg) (scaled_whole (nat_abs x) (on_f64 x e)) ∙ sym (sign_of k b x e);
  }
    where
      canonical : (v : Value) → value_of k b ≡ v → CanonicalClass (class_for k b v)
      canonical (num x) v = scaled_canonical (nat_abs x) (on_f64 x v) (in_f64 x v)
      canonical (inf n) v = tt
      canonical nan v = ((nans v).positive, mod-lt (nan_pattern k 53 11 b) (lit< tt))

      written : (v : Value) → value_of k b ≡ v → with_sign 64 neg (class_bits (class_for k b v)) ≡ as_f64_from k b v
      written (num x) v =
          ap (with_sign 64 neg) (scaled_bits (nat_abs x) (on_f64 x v))
          ∙ ap (λ (z : ℤ). with_sign 64 neg (mag_bits 53 0 (nat_abs z))) (sym (pick_own (float 53 0) (lit≤ tt) NearestEven x (on_f64 x v)))
      written (inf n) v = ap (λ (c : Bool). with_sign 64 c (inf_bits 53 11)) (sym (infinity_sign p w s b n v))
      written nan v = (nans v).pattern

-- ---- a NaN, and each format
narrower_nan : (p w s b : ℕ) → p < 53 → NanForm (binary p w s) b
unfolding nan_pattern
narrower_nan p w s b less =
    let n : p ≡ 53 → ⊥ = λ e. omega arith in
    let q = quiet_fraction p w s b n in record {
      positive = subst (λ (z : ℕ). 0 < z) q (omega arith);
      pattern = ap (λ (z : ℕ). with_sign 64 (negative (binary p w s) b) (inf_bits 53 11 + z)) (sym q) ∙ simp (ne_eqb p 53 n);
    }

own_nan : (b : ℕ) → b < 2 ^ 64 → value_of f64 b ≡ nan → NanForm f64 b
unfolding nan_pattern
own_nan b fits e =
    let h = nan_bits 53 11 0 b e in
    let low : b % 2 ^ 63 ≡ inf_bits 53 11 + b % 2 ^ 52 = split b h in record {
      positive = omega (arith, h, low);
      pattern = ap (with_sign 64 (negative f64 b)) (sym low) ∙ signed_again 53 11 0 (lit≤ tt) (lit< tt) b fits;
    }
  where
    split : (b : ℕ) → inf_bits 53 11 < b % 2 ^ 63 → b % 2 ^ 63 ≡ inf_bits 53 11 + b % 2 ^ 52
    split b h = omega arith

pub format_formed : (p w s : ℕ) → Format p w s → (b : ℕ) → b < 2 ^ (w + p) → Formed (binary p w s) b
format_formed p w s f b fits = ⊎_elim (λ (n : (p < 53) × (53 - p < s)). formed p w s f.two f.positive f.at_most_53 f.within_f64 b (λ _. narrower_nan p w s b n.0))
    (λ (e : (p ≡ 53) × (w ≡ 11) × (s ≡ 0)). formed p w s f.two f.positive f.at_most_53 f.within_f64 b
    (subst (λ (q : ℕ). value_of (binary q w s) b ≡ nan → NanForm (binary q w s) b) (sym e.0)
    (subst (λ (v : ℕ). value_of (binary 53 v s) b ≡ nan → NanForm (binary 53 v s) b) (sym e.1)
    (subst (λ (u : ℕ). value_of (binary 53 11 u) b ≡ nan → NanForm (binary 53 11 u) b) (sym e.2)
    (own_nan b (lt_of_lt_of_le fits (le_of_eq (ap₂ (λ (v q : ℕ). 2 ^ (v + q)) e.1 e.0))))))))
    f.narrower_or_f64

pub f16_formed : (b : ℕ) → Formed f16 b
f16_formed b = formed 11 5 1050 (lit≤ tt) (lit< tt) (lit≤ tt) f16_within_f64 b (λ _. narrower_nan 11 5 1050 b (lit< tt))

pub f32_formed : (b : ℕ) → Formed f32 b
f32_formed b = formed 24 8 925 (lit≤ tt) (lit< tt) (lit≤ tt) f32_within_f64 b (λ _. narrower_nan 24 8 925 b (lit< tt))

pub f64_formed : (b : ℕ) → b < 2 ^ 64 → Formed f64 b
f64_formed = format_formed 53 11 0 f64_format

-- what a pattern is read as is canonical
pub read_canonical : (k : Kind) (b : ℕ) → Formed k b → (x : Float) → x ≡ float_of k b → CanonicalClass x.class
read_canonical k b formed x e = subst (λ (f : Float). CanonicalClass f.class) (sym e) formed.canonical

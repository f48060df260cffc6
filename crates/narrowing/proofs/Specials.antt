-- What an infinity and a NaN come to in a narrower format.
use mathlib.Core.Path.{◌≡◌, refl, sym, ap, subst, ◌∙◌}
use mathlib.Core.Bool.{Bool, true, false}
use mathlib.Core.List.{[], ◌∷◌}
use mathlib.Core.Logic.{⊎_elim}
use Prim.Native.Nat.{ℕ, ◌+◌, ◌-◌, ◌*◌, ◌/◌, ◌%◌, ◌^◌, ◌<◌}
use native.Mathlib.Omega.{arith}
use lib.Dec.{lit<, lit≤}
use denote.Enum.Declared.{tag_of}
use types.Run.{OneOf}
use borrow.Author.Tests.{ne_eqb}
use Rattle.grid.specs.declared.RoundingMode.{RoundingMode}
use Rattle.patterns.specs.Float.{inf_bits}
use Rattle.patterns.specs.Kind.{binary, f64}
use Rattle.patterns.specs.Value.{negative}
use Rattle.patterns.specs.Pattern.{infinity, nan_pattern, quiet, with_sign}
use Rattle.patterns.proofs.Floats.{nan_lt, sign_is}
use Rattle.patterns.proofs.Quiet.{quiet_lt}
use Rattle.counts.specs.declared.Fared.TheVariants.{Exact}
use Rattle.codes.specs.declared.OutOfRangeMode.{OutOfRangeMode}
use Rattle.floats.specs.Form.{CanonicalClass, f64_of}
use Rattle.floats.specs.declared.Class.{Class}
use Rattle.floats.specs.declared.Class.TheVariants.{Finite, Infinite, NotANumber}
use Rattle.floats.specs.declared.Float.{Float}
use Rattle.floats.specs.contracts.Class.{the_type}
use Rattle.float_fields.proofs.Signs.{signed_sum, signed_fits}
use Rattle.float_range.specs.Range.{FormatBits}
use Rattle.narrowing.specs.Fit.{Special, fit_class, fit_float}
use Rattle.answers.specs.Outcome.{fit_as}

-- a class that is not `Finite`, as a program tells it: by the number of its variant
pub special : (c : Class) → OneOf (1 ∷ 2 ∷ []) (tag_of the_type c) → CanonicalClass c → Special c
special (Finite x) t h = absurd (⊎_elim (λ (e : ◌≡◌ {A = ℕ} 0 1). omega arith) (λ (e : ◌≡◌ {A = ℕ} 0 2). omega arith) t)
special Infinite t h = tt
special (NotANumber m) t h = h.1

module _ (p w s : ℕ) (mode : RoundingMode) (range : OutOfRangeMode) (f : Float) where
  -- a special class that is not `NotANumber`
  pub infinite_fit : Special f.class → OneOf (0 ∷ 1 ∷ []) (tag_of the_type f.class) → fit_as (infinity p w f.negative) Exact ≡ fit_float (binary p w s) mode range f
  infinite_fit = go f.class
    where
      go : (c : Class) → Special c → OneOf (0 ∷ 1 ∷ []) (tag_of the_type c) → fit_as (infinity p w f.negative) Exact ≡ fit_class (binary p w s) mode range f c
      go (Finite m) t u = absurd t
      go Infinite t u = refl
      go (NotANumber m) t u = absurd (⊎_elim (λ (e : ◌≡◌ {A = ℕ} 2 0). omega arith) (λ (e : ◌≡◌ {A = ℕ} 2 1). omega arith) u)

  -- the sign and the fraction of the f64 that stands for a NaN
  module _ (t : ℕ) (e : f.class ≡ NotANumber t) (small : t < 2 ^ 52) where
    nan_bits : f64_of f ≡ with_sign 64 f.negative (inf_bits 53 11 + t)
    nan_bits = ap (λ (c : Class). f64_of (record { negative = f.negative; class = c })) e

    nan_sign : negative f64 (f64_of f) ≡ f.negative
    nan_sign = ap (negative f64) nan_bits ∙ sign_is 53 11 0 (lit≤ tt) (lit< tt) f.negative (inf_bits 53 11 + t) (omega arith)

    nan_fraction : f64_of f % 2 ^ 52 ≡ t % 2 ^ 52
    nan_fraction = ap (λ (z : ℕ). z % 2 ^ 52) nan_bits ∙ go f.negative
      where
        go : (neg : Bool) → with_sign 64 neg (inf_bits 53 11 + t) % 2 ^ 52 ≡ t % 2 ^ 52
        go true = omega arith
        go false = omega arith

    pub nan_fit : p < 53 → fit_as (with_sign (w + p) f.negative (inf_bits p w + quiet 53 p t)) Exact ≡ fit_float (binary p w s) mode range f
    unfolding nan_pattern
    nan_fit less =
        sym (simp (ne_eqb 53 p (λ (z : 53 ≡ p). omega arith))
        (ap (λ (b : Bool). fit_as (with_sign (w + p) b (inf_bits p w + quiet 53 p (f64_of f))) Exact) nan_sign
        ∙ ap (λ (z : ℕ). fit_as (with_sign (w + p) f.negative (inf_bits p w + (2 ^ (p - 2) + z * 2 ^ (p - 1) / 2 ^ 52 % 2 ^ (p - 2)))) Exact) nan_fraction))
        ∙ ap (fit_class (binary p w s) mode range f) (sym e)

-- ---- an infinity's pattern and a fraction, added
pub with_sign_add : (n : ℕ) (neg : Bool) (x y : ℕ) → with_sign n neg x + y ≡ with_sign n neg (x + y)
with_sign_add n true x y = omega arith
with_sign_add n false x y = refl

pub nan_fits : (p w : ℕ) → FormatBits p w → (neg : Bool) (t : ℕ) → infinity p w neg + quiet 53 p t < 2 ^ 64
nan_fits p w f neg t =
    subst (λ (z : ℕ). z < 2 ^ 64) (signed_sum (w + p) neg _ (inf_bits p w + quiet 53 p t) refl ∙ sym (with_sign_add (w + p) neg (inf_bits p w) (quiet 53 p t)))
    (signed_fits (w + p) neg _ (inf_bits p w + quiet 53 p t) refl (omega (arith, f.two)) (omega (arith, f.fewer, f.at_most_11)) (nan_lt p w 0 f.two f.positive (quiet 53 p t) (quiet_lt 53 p t f.two)))

-- What a float's form comes to in a kind is what its pattern comes to.
use mathlib.Core.Path.{◌≡◌, refl, sym, ap, ◌∙◌}
use mathlib.Core.Logic.{◌≢◌}
use mathlib.Core.Bool.{Bool}
use mathlib.Core.List.{[]}
use Prim.Native.Nat.{ℕ, ◌*◌, ◌^◌, ◌≤◌, ◌<◌}
use native.Mathlib.Omega.{arith}
use lib.Dec.{lit<}
use lib.IntN.{ℤ, nat_abs}
use Rattle.grid.specs.Round.{pick, signed}
use Rattle.grid.specs.declared.RoundingMode.{RoundingMode}
use Rattle.patterns.specs.Kind.{Kind, integer, binary, f64, grid_of}
use Rattle.patterns.specs.Value.{Value, nan, inf, num, negative, value_of}
use Rattle.patterns.specs.Pattern.{as_f64_from, infinity, nan_pattern}
use Rattle.patterns.proofs.Floats.{infinity_sign}
use Rattle.patterns.proofs.Quiet.{nan_through}
use Rattle.codes.specs.declared.OutOfRangeMode.{OutOfRangeMode}
use Rattle.counts.specs.declared.Fared.TheVariants.{Exact}
use Rattle.cast_spec.specs.Element.{converted}
use Rattle.scaled.specs.Scaled.{scaled_of}
use Rattle.floats.specs.Form.{class_for, f64_of, float_of}
use Rattle.floats.proofs.Values.{Formed, f64_formed}
use Rattle.cast_spec.specs.Fit.{fit_number, fit_of}
use Rattle.narrowing.specs.Fit.{fit_class, fit_float}
use Rattle.cast_spec.specs.Fit.{unmapped}
use Rattle.cast_spec.proofs.Filled.{fit_any}
use Rattle.answers.specs.Outcome.{fit_as}

module _ (p w s b : ℕ) (formed : Formed (binary p w s) b) (rule : RoundingMode) (range : OutOfRangeMode) where
  abbrev k : Kind
  k = binary p w s

  number : (to : Kind) (x : ℤ) → value_of k b ≡ num x
      → fit_number to rule range (negative k b) (signed (negative k b) ((scaled_of (nat_abs x)).significand * 2 ^ (scaled_of (nat_abs x)).exponent)) ≡ fit_of (converted (record { from = k; to = to; rule = rule; range = range; entries = [] }) b to (num x))
  number to x e = ap (fit_number to rule range (negative k b)) (formed.number x e) ∙ fit_any range (negative k b) x (pick (grid_of to) rule x) to 0 _

  pub form_to_integer : (t : Bool) (n : ℕ) → fit_float (integer t n) rule range (float_of k b) ≡ fit_of (unmapped k (integer t n) rule range b)
  form_to_integer t n = go (value_of k b) refl
    where
      go : (v : Value) → value_of k b ≡ v → fit_class (integer t n) rule range (float_of k b) (class_for k b v) ≡ fit_of (converted (record { from = k; to = integer t n; rule = rule; range = range; entries = [] }) b (integer t n) v)
      go (num x) e = number (integer t n) x e
      go (inf neg) e = refl
      go nan e = refl

  pub form_to_float : (p' w' s' : ℕ) → (value_of k b ≡ nan → nan_pattern f64 p' w' (f64_of (float_of k b)) ≡ nan_pattern k p' w' b) → fit_float (binary p' w' s') rule range (float_of k b) ≡ fit_of (unmapped k (binary p' w' s') rule range b)
  form_to_float p' w' s' nans = go (value_of k b) refl
    where
      go : (v : Value) → value_of k b ≡ v → fit_class (binary p' w' s') rule range (float_of k b) (class_for k b v) ≡ fit_of (converted (record { from = k; to = binary p' w' s'; rule = rule; range = range; entries = [] }) b (binary p' w' s') v)
      go (num x) e = number (binary p' w' s') x e
      go (inf neg) e = ap (λ (c : Bool). fit_as (infinity p' w' c) Exact) (sym (infinity_sign p w s b neg e))
      go nan e = ap (λ (z : ℕ). fit_as z Exact) (nans e)

-- ---- an f64 to any float kind, and a narrower float to f64 and to any of another precision, where a NaN goes by way of f64's
pub f64_to_float : (p w s b : ℕ) → b < 2 ^ 64 → (rule : RoundingMode) (range : OutOfRangeMode) → fit_float (binary p w s) rule range (float_of f64 b) ≡ fit_of (unmapped f64 (binary p w s) rule range b)
unfolding nan_pattern
f64_to_float p w s b fits rule range = form_to_float 53 11 0 b (f64_formed b fits) rule range p w s (λ e. ap (nan_pattern f64 p w) ((f64_formed b fits).written ∙ ap (as_f64_from f64 b) e))

module _ (p w s b : ℕ) (two : 2 ≤ p) (less : p < 53) (formed : Formed (binary p w s) b) (rule : RoundingMode) (range : OutOfRangeMode) where
  pub narrower_to_f64 : fit_float f64 rule range (float_of (binary p w s) b) ≡ fit_of (unmapped (binary p w s) f64 rule range b)
  unfolding nan_pattern
  narrower_to_f64 = form_to_float p w s b formed rule range 53 11 0 (λ e. formed.written ∙ ap (as_f64_from (binary p w s) b) e)

  pub narrower_to_narrower : (p' w' s' : ℕ) → 2 ≤ p' → p' < 53 → p ≢ p' → fit_float (binary p' w' s') rule range (float_of (binary p w s) b) ≡ fit_of (unmapped (binary p w s) (binary p' w' s') rule range b)
  narrower_to_narrower p' w' s' two' less' other = form_to_float p w s b formed rule range p' w' s'
      (λ e. ap (nan_pattern f64 p' w') (formed.written ∙ ap (as_f64_from (binary p w s) b) e) ∙ nan_through p w s 53 11 0 b (omega arith) less (lit< tt) p' w' two' less' other)

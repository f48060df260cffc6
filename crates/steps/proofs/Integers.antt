-- What an integer's sign and magnitude come to in a kind is what its pattern comes to.
use mathlib.Core.Path.{◌≡◌, sym, ap, ◌∙◌}
use mathlib.Core.Bool.{Bool}
use mathlib.Core.List.{[]}
use Prim.Native.Nat.{ℕ}
use Rattle.grid.specs.Round.{pick}
use Rattle.grid.specs.declared.RoundingMode.{RoundingMode}
use Rattle.patterns.specs.Kind.{Kind, grid_of, integer}
use Rattle.patterns.specs.Value.{negative}
use Rattle.patterns.specs.Pattern.{as_f64}
use Rattle.codes.specs.declared.OutOfRangeMode.{OutOfRangeMode}
use Rattle.cast_spec.specs.Element.{converted, ranged}
use Rattle.cast_spec.specs.Fit.{fit_of, unmapped}
use Rattle.cast_spec.proofs.Filled.{fit_any}
use Rattle.integers.specs.Magnitude.{IntegerPattern, magnitude_of}
use Rattle.integers.specs.declared.Integer.{Integer}
use Rattle.integer_conversions.specs.Fit.{fit_integer}
use Rattle.element.proofs.Integers.{number_is, number_of, sign_is}

module _ (b : ℕ) (s : Bool) (n : ℕ) (h : IntegerPattern b n) where
  abbrev K : Kind
  K = integer s n

  pub integer_fit : (x : Integer) → x ≡ magnitude_of K b → (to : Kind) (mode : RoundingMode) (range : OutOfRangeMode) → fit_integer to mode range x ≡ fit_of (unmapped K to mode range b)
  integer_fit x e to mode range =
      let X = number_of (magnitude_of K b) in
      ap (fit_integer to mode range) e
      ∙ ap (λ (c : Bool). fit_of (ranged to range 0 c X (pick (grid_of to) mode X))) (sign_is b s n h)
      ∙ fit_any range (negative K b) X (pick (grid_of to) mode X) to 0 (as_f64 K b)
      ∙ ap (λ v. fit_of (converted (record { from = K; to = to; rule = mode; range = range; entries = [] }) b to v)) (sym (number_is b s n h))

-- The f64 of an integer's pattern is that of its sign and magnitude.
use mathlib.Core.Path.{◌≡◌, refl, sym, ap, ◌∙◌}
use mathlib.Core.Bool.{Bool}
use Prim.Native.Nat.{ℕ, ◌*◌, ◌^◌}
use lib.IntN.{ℤ}
use Rattle.grid.specs.Round.{pick, signed}
use Rattle.grid.specs.declared.RoundingMode.TheVariants.{NearestEven}
use Rattle.patterns.specs.Kind.{Kind, f64, grid_of, integer}
use Rattle.patterns.specs.Value.{num, negative, value_of}
use Rattle.patterns.specs.Pattern.{as_f64, as_f64_from, pattern_of}
use Rattle.integers.specs.Magnitude.{IntegerPattern, magnitude_of}
use Rattle.integers.specs.declared.Integer.{Integer}
use Rattle.integers.proofs.Magnitudes.{magnitude_value}
use Rattle.element.specs.Element.{element_f64}
use Rattle.element.specs.declared.Element.TheVariants as E

abbrev pub number_of : Integer → ℤ
number_of x = signed x.negative (x.magnitude * 2 ^ 1074)

module _ (b : ℕ) (s : Bool) (n : ℕ) (h : IntegerPattern b n) where
  abbrev K : Kind
  K = integer s n

  pub sign_is : (magnitude_of K b).negative ≡ negative K b
  unfolding magnitude_of
  sign_is = refl

  pub number_is : value_of K b ≡ num (number_of (magnitude_of K b))
  number_is = magnitude_value s n b

  pub as_f64_is : element_f64 (E.Integer (magnitude_of K b)) ≡ as_f64 K b
  unfolding element_f64
  as_f64_is = ap (λ (t : Bool). pattern_of f64 t (pick (grid_of f64) NearestEven (number_of (magnitude_of K b)))) sign_is ∙ ap (as_f64_from K b) (sym number_is)

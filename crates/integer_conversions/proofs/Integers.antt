-- An integer element going to an integer kind: nothing is rounded, and its number meets the range.
use mathlib.Core.Path.{◌≡◌, refl, sym, ap, subst, ◌∙◌}
use mathlib.Core.Bool.{Bool, false}
use Prim.Native.Nat.{ℕ, ◌*◌, ◌^◌, ◌<◌}
use native.Mathlib.Nat.{mod-eq_of_lt}
use lib.IntN.{ℤ}
use borrow.Author.Tests.{lt-leb}
use Rattle.grid.specs.Grid.{OnMag, whole}
use Rattle.grid.specs.Round.{pick, signed}
use Rattle.grid.specs.declared.RoundingMode.{RoundingMode}
use Rattle.grid.specs.declared.Ternary.TheVariants.{Exact}
use Rattle.grid.proofs.Picked.{pick_own}
use Rattle.grid.proofs.Sides.{exact_is}
use Rattle.patterns.specs.Kind.{integer}
use Rattle.patterns.proofs.Floats.{abs_signed}
use Rattle.codes.specs.declared.OutOfRangeMode.{OutOfRangeMode}
use Rattle.cast_spec.specs.Element.{ranged}
use Rattle.cast_spec.specs.Fit.{fit_of}
use Rattle.integers.specs.declared.Integer.{Integer}
use Rattle.integer_range.specs.Range.{RangeApplied}
use Rattle.integer_conversions.specs.Fit.{fit_integer}
use Rattle.answers.specs.Outcome.{Fit}

abbrev number_of : Integer → ℤ
number_of x = signed x.negative (x.magnitude * 2 ^ 1074)

-- a whole number is its own pick among the whole numbers
own_pick : (x : Integer) (mode : RoundingMode) → pick (whole 1074) mode (number_of x) ≡ number_of x
own_pick x mode = pick_own (whole 1074) tt mode (number_of x) (subst (λ (z : ℕ). OnMag (whole 1074) z) (sym (abs_signed x.negative (x.magnitude * 2 ^ 1074))) (record { m = x.magnitude; e = 1074; written = (refl, refl) }))

pub range_is_fit : (t : Bool) (n : ℕ) (range : OutOfRangeMode) (x : Integer) → x.magnitude < 2 ^ 64 → (r : Fit) → RangeApplied x.negative x.magnitude false Exact (integer t n) range r → (mode : RoundingMode) → r ≡ fit_integer (integer t n) mode range x
range_is_fit t n range x small r applied mode =
    applied.fit x.magnitude (number_of x) (sym (mod-eq_of_lt small)) (sym (lt-leb (2 ^ 64) x.magnitude small)) (sym (exact_is (number_of x) (number_of x) refl))
    ∙ ap (λ (z : ℤ). fit_of (ranged (integer t n) range 0 x.negative (number_of x) z)) (sym (own_pick x mode))

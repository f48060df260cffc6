-- Internal: a whole number and the range of an integer kind.
use Rattle.std.specs.Prelude.{◌≡◌, Bool, true, false, cond, ℕ, ◌-◌, ◌*◌, ◌%◌, ◌^◌, leb, ℤ}
use Rattle.grid.specs.Round.{signed}
use Rattle.grid.specs.Ternary.{ternary_of}
use Rattle.grid.specs.declared.Ternary.{Ternary}
use Rattle.patterns.specs.Kind.{Kind, integer, binary, high_int}
use Rattle.codes.specs.declared.OutOfRangeMode.{OutOfRangeMode}
use Rattle.codes.specs.declared.OutOfRangeMode.TheVariants.{None, Clamp, Wrap}
use Rattle.cast_spec.specs.Element.{ranged}
use Rattle.cast_spec.specs.Fit.{fit_of}
use Rattle.answers.specs.Outcome.{Fit}

-- what a range choice does with a pick past the range: it refuses it, clamps it, or else wraps it
abbrev pub refusing : OutOfRangeMode → Bool
refusing None = true
refusing Clamp = false
refusing Wrap = false

abbrev pub clamping : OutOfRangeMode → Bool
clamping None = false
clamping Clamp = true
clamping Wrap = false

-- the magnitude of an integer kind's end on one side of zero
unfoldable pub end_mag : Kind → Bool → ℕ
end_mag (integer s n) neg = cond neg (cond s (2 ^ (n - 1)) 0) (high_int s n)
end_mag (binary p w s) neg = 0

-- r is what the range choice makes of any whole number N of that sign, whose magnitude modulo 2^64 is m and exceeds 64 bits where `exceeds` says so,
-- as the pick of any element x beside which it lies where t says
pub record RangeApplied (neg : Bool) (m : ℕ) (exceeds : Bool) (t : Ternary) (to : Kind) (range : OutOfRangeMode) (r : Fit) : Type 0 where
  pub fit : (N : ℕ) (x : ℤ) → m ≡ N % 2 ^ 64 → exceeds ≡ leb (2 ^ 64) N → t ≡ ternary_of x (signed neg (N * 2 ^ 1074)) → r ≡ fit_of (ranged to range 0 neg x (signed neg (N * 2 ^ 1074)))

-- A fit has all of an outcome but the value and the ends: no fit depends on them, and with them it is the outcome again.
use mathlib.Core.Path.{◌≡◌, refl}
use mathlib.Core.Bool.{Bool, true, false, cond}
use mathlib.Core.List.{[]}
use Prim.Native.Nat.{ℕ}
use lib.IntN.{ℤ}
use Rattle.grid.specs.Round.{pick}
use Rattle.grid.specs.Ternary.{ternary_of}
use Rattle.grid.specs.declared.RoundingMode.{RoundingMode}
use Rattle.patterns.specs.Kind.{Kind, integer, binary, grid_of}
use Rattle.patterns.specs.Value.{Value, nan, inf, num, negative, value_of}
use Rattle.patterns.specs.Pattern.{as_f64, pattern_of}
use Rattle.counts.specs.Counts.{by_pick}
use Rattle.codes.specs.declared.OutOfRangeMode.{OutOfRangeMode}
use Rattle.codes.specs.declared.OutOfRangeMode.TheVariants.{None, Clamp, Wrap}
use Rattle.cast_spec.specs.Element.{beyond, converted, found_or, in_range, ranged}
use Rattle.cast_spec.specs.Fit.{fit_of, filled, unmapped}
use Rattle.answers.specs.Outcome.{stored_as}
use Rattle.std.specs.Prelude.{None, Option, Some}

module _ (range : OutOfRangeMode) (neg : Bool) (x y : ℤ) where
  beyond_any : (k : Kind) (v v' : ℕ) → fit_of (beyond k range v neg y) ≡ fit_of (beyond k range v' neg y)
  unfolding beyond
  beyond_any (integer s n) v v' = go range
    where
      go : (r : OutOfRangeMode) → fit_of (beyond (integer s n) r v neg y) ≡ fit_of (beyond (integer s n) r v' neg y)
      go None = refl
      go Clamp = refl
      go Wrap = refl
  beyond_any (binary p w s) v v' = go range
    where
      go : (r : OutOfRangeMode) → fit_of (beyond (binary p w s) r v neg y) ≡ fit_of (beyond (binary p w s) r v' neg y)
      go None = refl
      go Clamp = refl
      go Wrap = refl

  beyond_filled : (k : Kind) (v : ℕ) → filled k v (fit_of (beyond k range v neg y)) ≡ beyond k range v neg y
  unfolding beyond
  beyond_filled (integer s n) v = go range
    where
      go : (r : OutOfRangeMode) → filled (integer s n) v (fit_of (beyond (integer s n) r v neg y)) ≡ beyond (integer s n) r v neg y
      go None = refl
      go Clamp = refl
      go Wrap = refl
  beyond_filled (binary p w s) v = go range
    where
      go : (r : OutOfRangeMode) → filled (binary p w s) v (fit_of (beyond (binary p w s) r v neg y)) ≡ beyond (binary p w s) r v neg y
      go None = refl
      go Clamp = refl
      go Wrap = refl

  pub fit_any : (k : Kind) (v v' : ℕ) → fit_of (ranged k range v neg x y) ≡ fit_of (ranged k range v' neg x y)
  fit_any k v v' = go (in_range k y)
    where
      go : (c : Bool) → fit_of (cond c (stored_as (pattern_of k neg y) (by_pick (ternary_of x y))) (beyond k range v neg y)) ≡ fit_of (cond c (stored_as (pattern_of k neg y) (by_pick (ternary_of x y))) (beyond k range v' neg y))
      go true = refl
      go false = beyond_any k v v'

  ranged_filled : (k : Kind) (v : ℕ) → filled k v (fit_of (ranged k range v neg x y)) ≡ ranged k range v neg x y
  ranged_filled k v = go (in_range k y)
    where
      go : (c : Bool) → filled k v (fit_of (cond c (stored_as (pattern_of k neg y) (by_pick (ternary_of x y))) (beyond k range v neg y))) ≡ cond c (stored_as (pattern_of k neg y) (by_pick (ternary_of x y))) (beyond k range v neg y)
      go true = refl
      go false = beyond_filled k v

-- an element that no entry matches
unmapped_filled : (from to : Kind) (rule : RoundingMode) (range : OutOfRangeMode) (b : ℕ) → filled to (as_f64 from b) (fit_of (unmapped from to rule range b)) ≡ unmapped from to rule range b
unmapped_filled from to rule range b = go to (value_of from b)
  where
    go : (k : Kind) (v : Value) → filled k (as_f64 from b) (fit_of (converted (record { from = from; to = to; rule = rule; range = range; entries = [] }) b k v)) ≡ converted (record { from = from; to = to; rule = rule; range = range; entries = [] }) b k v
    go k (num x) = ranged_filled range (negative from b) x (pick (grid_of k) rule x) k (as_f64 from b)
    go (integer s n) (inf neg) = refl
    go (integer s n) nan = refl
    go (binary p w s) (inf neg) = refl
    go (binary p w s) nan = refl

pub outcome_filled : (f : Option ℕ) (from to : Kind) (rule : RoundingMode) (range : OutOfRangeMode) (b : ℕ) → filled to (as_f64 from b) (fit_of (found_or f (unmapped from to rule range b))) ≡ found_or f (unmapped from to rule range b)
outcome_filled (Some t) from to rule range b = refl
outcome_filled None from to rule range b = unmapped_filled from to rule range b

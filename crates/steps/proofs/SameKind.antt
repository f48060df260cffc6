-- An element that goes to its own kind is its pattern: "Widening and same-kind float casts are exact; infinities pass".
use mathlib.Core.Path.{◌≡◌, refl, sym, ap, ap₂, subst, ◌∙◌}
use mathlib.Core.Bool.{Bool, cond}
use mathlib.Core.List.{[]}
use Prim.Native.Nat.{ℕ, ◌+◌, ◌-◌, ◌*◌, ◌^◌, ◌<◌}
use lib.IntN.{ℤ, pos}
use lib.Signed.{◌≤ℤ◌}
use borrow.Author.Tests.{eq-eqb}
use Rattle.grid.specs.Grid.{OnGrid, OnMag, whole}
use Rattle.grid.specs.Round.{pick}
use Rattle.grid.specs.declared.RoundingMode.{RoundingMode}
use Rattle.grid.proofs.Picked.{pick_own}
use Rattle.patterns.specs.Kind.{InRange, Kind, WellFormed, binary, bits, grid_of, high_int, highest, integer}
use Rattle.patterns.specs.Value.{Value, nan, inf, num, negative, value_of}
use Rattle.patterns.specs.Pattern.{as_f64, nan_pattern, pattern_of, with_sign}
use Rattle.patterns.proofs.AnyKind.{lowest_in, pattern_only, sound, unit_pos}
use Rattle.patterns.proofs.Integers.{low_in, value_in_range, value_in}
use Rattle.patterns.proofs.Floats.{abs_signed, infinity_bits, infinity_sign, number_of_format, signed_again}
use Rattle.codes.specs.declared.OutOfRangeMode.{OutOfRangeMode}
use Rattle.grid.specs.declared.Ternary.{Ternary}
use Rattle.grid.proofs.Sides.{exact_is}
use Rattle.counts.specs.Counts.{by_pick}
use Rattle.counts.specs.declared.Fared.TheVariants.{Exact}
use Rattle.cast_spec.specs.Element.{Settings, converted, ranged}
use Rattle.integers.specs.Magnitude.{magnitude_of}
use Rattle.integers.proofs.Magnitudes.{magnitude_value}
use Rattle.element.proofs.Integers.{number_of}
use Rattle.float_range.proofs.Fits.{in_range_stored}
use Rattle.cast_spec.specs.Fit.{unmapped}
use Rattle.answers.specs.Outcome.{stored_as}

-- a number of the target's grid and range is stored as it is
pub exactly : (k : Kind) → WellFormed k → (mode : RoundingMode) (range : OutOfRangeMode) (v : ℕ) (neg : Bool) (x : ℤ) → OnGrid (grid_of k) x → InRange k x → ranged k range v neg x (pick (grid_of k) mode x) ≡ stored_as (pattern_of k neg x) Exact
exactly k ok mode range v neg x on h = ap (ranged k range v neg x) (pick_own (grid_of k) (sound k ok) mode x on) ∙ in_range_stored k range v neg x x h ∙ ap (λ (t : Ternary). stored_as (pattern_of k neg x) (by_pick t)) (exact_is x x refl)

own_nan : (p w s b : ℕ) → nan_pattern (binary p w s) p w b ≡ b
unfolding nan_pattern
own_nan p w s b = simp (eq-eqb p p refl)

-- a pattern's number is on its kind's grid and in its range
own_number : (k : Kind) → WellFormed k → (b : ℕ) → b < 2 ^ bits k → (x : ℤ) → value_of k b ≡ num x → OnGrid (grid_of k) x × InRange k x
unfolding value_of highest
own_number (integer s n) ok b fits x e =
    let v : value_in s n (2 ^ 1074) b ≡ x = cc in
    let h = value_in_range s n (2 ^ 1074) ok unit_pos b fits in
    let neg = negative (integer s n) b in
    let m = cond neg (2 ^ n - b) b in
    let low = subst (λ (z : ℤ). z ≤ℤ x) (sym (lowest_in s n)) (subst (λ (z : ℤ). low_in s n (2 ^ 1074) ≤ℤ z) v h.0) in
    let high = subst (λ (z : ℤ). z ≤ℤ pos (high_int s n * 2 ^ 1074)) v h.1 in (
      subst (OnGrid (whole 1074)) v (subst (λ (z : ℕ). OnMag (whole 1074) z) (sym (abs_signed neg (m * 2 ^ 1074))) (record { m = m; e = 1074; written = (refl, refl) })),
      (low, high),
    )
own_number (binary p w s) ok b fits x e = number_of_format p w s ok.0 ok.1 b x e

module _ (k : Kind) (ok : WellFormed k) (b : ℕ) (fits : b < 2 ^ bits k) (mode : RoundingMode) (range : OutOfRangeMode) where
  abbrev S : Settings
  S = record { from = k; to = k; rule = mode; range = range; entries = [] }

  number : (x : ℤ) → value_of k b ≡ num x → stored_as b Exact ≡ converted S b k (num x)
  number x e =
      let h = own_number k ok b fits x e in
      sym (exactly k ok mode range (as_f64 k b) (negative k b) x h.0 h.1 ∙ ap (λ (z : ℕ). stored_as z Exact) (sym (pattern_only k b (negative k b) x ok fits e refl)))

pub same_kind : (k : Kind) → WellFormed k → (b : ℕ) → b < 2 ^ bits k → (mode : RoundingMode) (range : OutOfRangeMode) → stored_as b Exact ≡ unmapped k k mode range b
same_kind (integer s n) ok b fits mode range = number (integer s n) ok b fits mode range (number_of (magnitude_of (integer s n) b)) (magnitude_value s n b) ∙ ap (converted (S (integer s n) ok b fits mode range) b (integer s n)) (sym (magnitude_value s n b))
same_kind (binary p w s) ok b fits mode range = go (value_of k b) refl
  where
    k : Kind
    k = binary p w s

    go : (u : Value) → value_of k b ≡ u → stored_as b Exact ≡ converted (record { from = k; to = k; rule = mode; range = range; entries = [] }) b k u
    go (num x) e = number k ok b fits mode range x e
    go (inf neg) e = ap (λ (z : ℕ). stored_as z Exact) (sym (ap₂ (with_sign (w + p)) (infinity_sign p w s b neg e) (sym (infinity_bits p w s b neg e)) ∙ signed_again p w s ok.0 ok.1 b fits))
    go nan e = ap (λ (z : ℕ). stored_as z Exact) (sym (own_nan p w s b))

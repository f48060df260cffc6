-- "Widening and same-kind float casts are exact; infinities pass": a pattern that is no NaN goes to a wider float kind exactly, and from there back to itself.
use mathlib.Core.Path.{◌≡◌, refl, sym, ap, ap₂, ◌∙◌}
use mathlib.Core.Bool.{Bool}
use mathlib.Core.List.{[]}
use Prim.Native.Nat.{ℕ, ◌+◌, ◌-◌, ◌^◌, ◌≤◌, ◌<◌}
use native.Mathlib.Nat.{le_trans, lt_trans}
use lib.Dec.{lit<, lit≤}
use lib.IntN.{ℤ, nat_abs}
use Rattle.grid.specs.Grid.{OnGrid, float}
use Rattle.grid.specs.declared.RoundingMode.{RoundingMode}
use Rattle.grid.proofs.Neighbours.{finer}
use Rattle.patterns.specs.Float.{bits_mag, inf_bits}
use Rattle.patterns.specs.Kind.{InRange, Kind, WellFormed, binary, f16, f32, f64}
use Rattle.patterns.specs.Value.{Value, nan, inf, num, negative, value_of}
use Rattle.patterns.specs.Pattern.{as_f64, infinity, mag_bits, pattern_of, with_sign}
use Rattle.patterns.proofs.AnyKind.{abs_in_range, largest_bits, pattern_back, pattern_only, sign_of}
use Rattle.patterns.proofs.Floats.{inf_back, inf_lt, infinity_bits, infinity_sign, mag_lt, number_of_format, sign_is, signed_again}
use Rattle.counts.specs.declared.Fared.TheVariants.{Exact}
use Rattle.codes.specs.declared.OutOfRangeMode.{OutOfRangeMode}
use Rattle.cast_spec.specs.Element.{converted}
use Rattle.cast_spec.specs.Fit.{unmapped}
use Rattle.steps.proofs.SameKind.{exactly}
use Rattle.answers.specs.Outcome.{stored_as}

-- the pattern b of the kind k goes to the pattern `wide` of k' and comes back, whatever the rules and range choices are
pub record ThereAndBack (k k' : Kind) (b : ℕ) : Type 0 where
  pub wide : ℕ
  pub there : (mode : RoundingMode) (range : OutOfRangeMode) → unmapped k k' mode range b ≡ stored_as wide Exact
  pub back : (mode : RoundingMode) (range : OutOfRangeMode) → unmapped k' k mode range wide ≡ stored_as b Exact

-- ---- from any format to one of no fewer significant bits, no coarser spacing and no smaller MAX
module _ (p w s p' w' s' : ℕ) (ok : WellFormed (binary p w s)) (ok' : WellFormed (binary p' w' s')) (more : p ≤ p') (fine : s' ≤ s) (room : bits_mag p s (inf_bits p w - 1) ≤ bits_mag p' s' (inf_bits p' w' - 1)) (b : ℕ) (fits : b < 2 ^ (w + p)) where
  abbrev k : Kind
  k = binary p w s

  abbrev k' : Kind
  k' = binary p' w' s'

  abbrev neg : Bool
  neg = negative k b

  module _ (x : ℤ) (e : value_of k b ≡ num x) where
    on : OnGrid (float p s) x
    on = (number_of_format p w s ok.0 ok.1 b x e).0

    inside : InRange k x
    inside = (number_of_format p w s ok.0 ok.1 b x e).1

    on' : OnGrid (float p' s') x
    on' = finer p s p' s' (nat_abs x) more fine on

    most : nat_abs x ≤ bits_mag p' s' (inf_bits p' w' - 1)
    most = le_trans (largest_bits p w s x inside) room

    inside' : InRange k' x
    inside' = abs_in_range p' w' s' x most

    wide_sign : negative k' (pattern_of k' neg x) ≡ neg
    unfolding pattern_of
    wide_sign = sign_is p' w' s' ok'.0 ok'.1 neg (mag_bits p' s' (nat_abs x)) (lt_trans (mag_lt p' w' s' ok'.0 ok'.1 (nat_abs x) on' most) (inf_lt p' w' s' ok'.0 ok'.1))

    number_back : ThereAndBack k k' b
    number_back = record {
      wide = pattern_of k' neg x;
      there = λ mode range. ap (converted (record { from = k; to = k'; rule = mode; range = range; entries = [] }) b k') e ∙ exactly k' ok' mode range (as_f64 k b) neg x on' inside';
      back = λ mode range.
          ap (converted (record { from = k'; to = k; rule = mode; range = range; entries = [] }) (pattern_of k' neg x) k) (pattern_back k' neg x ok' on' inside' (sign_of k b x e))
          ∙ exactly k ok mode range (as_f64 k' (pattern_of k' neg x)) (negative k' (pattern_of k' neg x)) x on inside
          ∙ ap (λ (n : Bool). stored_as (pattern_of k n x) Exact) wide_sign
          ∙ ap (λ (z : ℕ). stored_as z Exact) (sym (pattern_only k b neg x ok fits e refl));
    }

  infinity_back : (n : Bool) → value_of k b ≡ inf n → ThereAndBack k k' b
  infinity_back n e = record {
    wide = infinity p' w' n;
    there = λ mode range. ap (converted (record { from = k; to = k'; rule = mode; range = range; entries = [] }) b k') e;
    back = λ mode range.
        ap (converted (record { from = k'; to = k; rule = mode; range = range; entries = [] }) (infinity p' w' n) k) (inf_back p' w' s' ok'.0 ok'.1 n)
        ∙ ap (λ (z : ℕ). stored_as z Exact) (ap₂ (with_sign (w + p)) (infinity_sign p w s b n e) (sym (infinity_bits p w s b n e)) ∙ signed_again p w s ok.0 ok.1 b fits);
  }

  pub there_and_back : (value_of k b ≡ nan → ⊥) → ThereAndBack k k' b
  there_and_back other = go (value_of k b) refl
    where
      go : (v : Value) → value_of k b ≡ v → ThereAndBack k k' b
      go (num x) e = number_back x e
      go (inf n) e = infinity_back n e
      go nan e = absurd (other e)

-- ---- of the three float kinds
pub f16_through_f32 : (b : ℕ) → b < 2 ^ 16 → (value_of f16 b ≡ nan → ⊥) → ThereAndBack f16 f32 b
unfolding bits_mag
f16_through_f32 = there_and_back 11 5 1050 24 8 925 (lit≤ tt, lit< tt) (lit≤ tt, lit< tt) (lit≤ tt) (lit≤ tt) (lit≤ tt)

pub f16_through_f64 : (b : ℕ) → b < 2 ^ 16 → (value_of f16 b ≡ nan → ⊥) → ThereAndBack f16 f64 b
unfolding bits_mag
f16_through_f64 = there_and_back 11 5 1050 53 11 0 (lit≤ tt, lit< tt) (lit≤ tt, lit< tt) (lit≤ tt) (lit≤ tt) (lit≤ tt)

pub f32_through_f64 : (b : ℕ) → b < 2 ^ 32 → (value_of f32 b ≡ nan → ⊥) → ThereAndBack f32 f64 b
unfolding bits_mag
f32_through_f64 = there_and_back 24 8 925 53 11 0 (lit≤ tt, lit< tt) (lit≤ tt, lit< tt) (lit≤ tt) (lit≤ tt) (lit≤ tt)

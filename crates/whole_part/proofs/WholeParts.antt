-- The lowest bits of a whole part are those of its magnitude modulo 2^64, with its sign.
use mathlib.Core.Path.{◌≡◌, refl, sym, ap, subst, ◌∙◌}
use mathlib.Core.Bool.{false}
use mathlib.Core.List.{[], ◌∷◌}
use mathlib.Core.Logic.{⊎_elim}
use Prim.Native.Nat.{ℕ, ◌*◌, ◌%◌, ◌^◌, ◌≤◌}
use native.Mathlib.Nat.{le_refl}
use native.Mathlib.Omega.{arith}
use lib.Dec.{lit<, lit≤}
use lib.IntN.{ℤ}
use denote.Enum.Declared.{tag_of}
use types.Run.{OneOf}
use Rattle.grid.specs.Grid.{whole}
use Rattle.grid.specs.Round.{rule_for, signed}
use Rattle.grid.specs.declared.RoundingMode.TheVariants.{TowardsZero}
use Rattle.grid.proofs.Kept.{pick_signed}
use Rattle.patterns.specs.Kind.{integer, f64}
use Rattle.patterns.specs.Pattern.{low_bits, pattern_of}
use Rattle.patterns.specs.Value.{Value, nan, inf, num, value_of}
use Rattle.patterns.proofs.AnyKind.{whole_pattern}
use Rattle.floats.specs.Form.{class_for, float_of}
use Rattle.floats.specs.declared.Class.TheVariants.{Finite}
use Rattle.scaled.specs.declared.Scaled.{Scaled}
use Rattle.floats.specs.declared.Float.{Float}
use Rattle.floats.specs.contracts.Class.{the_type}
use Rattle.floats.proofs.Values.{read_value}
use Rattle.rounding.specs.Rounding.{units_of}
use Rattle.rounding.proofs.Units.{whole_times_unit}
use Rattle.wrapping.proofs.Residues.{low_bits_mod}
use Rattle.whole_part.specs.WholePart.{wrapped_from, wrapped_of}

module _ (n b : ℕ) (x : Float) (is : x ≡ float_of f64 b) where
  pub no_number : OneOf (1 ∷ 2 ∷ []) (tag_of the_type x.class) → 0 ≡ wrapped_of n b
  no_number t = go (value_of f64 b) (subst (λ (f : Float). OneOf (1 ∷ 2 ∷ []) (tag_of the_type f.class)) is t)
    where
      go : (v : Value) → OneOf (1 ∷ 2 ∷ []) (tag_of the_type (class_for f64 b v)) → 0 ≡ wrapped_from n v
      go (num y) t = absurd (⊎_elim (λ (e : ◌≡◌ {A = ℕ} 0 1). omega arith) (λ (e : ◌≡◌ {A = ℕ} 0 2). omega arith) t)
      go (inf neg) t = refl
      go nan t = refl

  pub wrapped_bits : (m : Scaled) → x.class ≡ Finite m → n ≤ 64 → low_bits n (signed x.negative (units_of 1074 (rule_for x.negative TowardsZero) (m.significand * 2 ^ m.exponent) % 2 ^ 64)) ≡ wrapped_of n b
  wrapped_bits m finite most =
      let neg = x.negative in
      let r = rule_for neg TowardsZero in
      let u = m.significand * 2 ^ m.exponent in
      low_bits_mod n neg (units_of 1074 r u) most
      ∙ sym (whole_pattern false n neg false (units_of 1074 r u))
      ∙ ap (λ (z : ℤ). pattern_of (integer false n) false z) (sym (pick_signed (whole 1074) tt TowardsZero neg u ∙ ap (signed neg) (whole_times_unit r 1074 u)))
      ∙ ap (wrapped_from n) (sym (read_value 53 11 0 (lit≤ tt) (lit< tt) (lit≤ tt) (le_refl _) b x is m finite))

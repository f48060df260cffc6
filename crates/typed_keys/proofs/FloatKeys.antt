-- Whether a float key matches a pattern of its format, by comparing floats: the key, and the float v of the pattern.
use mathlib.Core.Path.{◌≡◌, refl, ap, ap₂, subst, sym, ◌∙◌}
use mathlib.Core.Bool.{Bool, true, false, ◌&&◌, ◌||◌, true≢false}
use Prim.Native.Nat.{ℕ}
use lib.Dec.{T}
use lib.Ieee.{Float, Format, nan, inf, fin, eq, ne, fits, is_nan, of_bits}
use lib.Ieee.Bits.{of_bits-to_bits}
use lib.Ieee.Compare.{differs_from_itself, nan_differs}
use Rattle.patterns.specs.Value.{value_of}
use Rattle.patterns.proofs.Ieee.{Agrees, kind_for, agree}
use Rattle.cast_spec.specs.Element.{matches}
use Rattle.mapping.proofs.Ieee.{floats_match}
use Rattle.typed_values.specs.Bits.{float_bits}
use Rattle.typed_values.proofs.Patterns.{own_bits}

-- only a NaN differs from itself
only_nan_differs : (x : Float) → ne x x ≡ is_nan x
unfolding is_nan
only_nan_differs x = go (ne x x) refl
  where
    no_nan : (y : Float) → ne y y ≡ false → false ≡ is_nan y
    no_nan nan e = absurd (true≢false (sym nan_differs ∙ e))
    no_nan (inf s) e = refl
    no_nan (fin s m k) e = refl

    go : (t : Bool) → ne x x ≡ t → ne x x ≡ is_nan x
    go true e = e ∙ sym (ap is_nan (differs_from_itself x (subst T (sym e) tt)))
    go false e = e ∙ no_nan x e

module _ (f : Format) (key v : Float) (x : ℕ) (key_fits : fits f key ≡ true) (read : v ≡ of_bits f x) where
  key_agrees : Agrees key (value_of (kind_for f) (float_bits f key))
  key_agrees = subst (λ (y : Float). Agrees y (value_of (kind_for f) (float_bits f key))) (ap (of_bits f) (sym (own_bits f key key_fits)) ∙ of_bits-to_bits f key (subst T (sym key_fits) tt)) (agree f (float_bits f key))

  value_agrees : Agrees v (value_of (kind_for f) x)
  value_agrees = subst (λ (y : Float). Agrees y (value_of (kind_for f) x)) (sym read) (agree f x)

  -- i says that v equals the key, and j that v is a NaN
  pub key_matches : {i j : Bool} → eq v key ≡ i → is_nan v ≡ j → i || j && is_nan key ≡ matches (value_of (kind_for f) x) (value_of (kind_for f) (float_bits f key))
  key_matches i j = sym (ap₂ (λ (p q : Bool). p || q) i (ap₂ (λ (p q : Bool). p && q) (only_nan_differs v ∙ j) (only_nan_differs key))) ∙ floats_match v key _ _ value_agrees key_agrees

-- An integer matches a key exactly where the patterns are equal: for any count of bits.
use mathlib.Core.Path.{◌≡◌, refl, sym, ap, ◌∙◌}
use mathlib.Core.Bool.{Bool, true, false}
use Prim.Native.Nat.{ℕ, ◌^◌, ◌<◌}
use lib.Dec.{eqb}
use lib.IntN.{ℤ}
use lib.Signed.{shr_z}
use borrow.Author.Tests.{eqb-true, eqb-false}
use Rattle.patterns.specs.Kind.{integer}
use Rattle.patterns.specs.Value.{value_of}
use Rattle.patterns.specs.Pattern.{low_bits}
use Rattle.patterns.proofs.Integers.{value_in, again}
use Rattle.patterns.proofs.AnyKind.{unit_pos}
use Rattle.cast_spec.specs.Element.{matches}
use Rattle.mapping.proofs.Equal.{equal_numbers, false_if_absurd, same_pattern}

-- a pattern is that of its number, in any unit u
value_only : (s : Bool) (n u a b : ℕ) → 0 < n → 0 < u → a < 2 ^ n → b < 2 ^ n → value_in s n u a ≡ value_in s n u b → a ≡ b
value_only s n u a b positive unit f g e = sym (again s n u positive unit a f) ∙ ap (λ (z : ℤ). low_bits n (shr_z z u)) e ∙ again s n u positive unit b g

module _ (s : Bool) (n a key : ℕ) (positive : 0 < n) (fits : a < 2 ^ n) (key_fits : key < 2 ^ n) where
  other_pattern : (a ≡ key → ⊥) → matches (value_of (integer s n) a) (value_of (integer s n) key) ≡ false
  unfolding value_of
  other_pattern other = false_if_absurd _ (λ e. other (value_only s n (2 ^ 1074) a key positive unit_pos fits key_fits (equal_numbers _ _ e)))

  pub integers_match : eqb a key ≡ matches (value_of (integer s n) a) (value_of (integer s n) key)
  integers_match = go (eqb a key) refl
    where
      go : (t : Bool) → eqb a key ≡ t → t ≡ matches (value_of (integer s n) a) (value_of (integer s n) key)
      go true e = same_pattern (integer s n) a key (eqb-true a key e)
      go false e = sym (other_pattern (eqb-false a key e))

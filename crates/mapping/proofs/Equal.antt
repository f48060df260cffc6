-- What matching comes to for numbers, and that any value matches itself.
use mathlib.Core.Path.{◌≡◌, refl, sym, ap, ap₂, ◌∙◌}
use mathlib.Core.Bool.{Bool, true, false, ◌&&◌}
use Prim.Native.Nat.{ℕ}
use native.Mathlib.Omega.{arith}
use lib.Dec.{T}
use lib.IntN.{ℤ}
use lib.Signed.{le_z, le_z_yes, ◌≤ℤ◌, ≤ℤ_refl}
use lib.Ieee.Bits.{is_true}
use Rattle.grid.proofs.Int.{ints, →eq}
use Rattle.patterns.specs.Kind.{Kind}
use Rattle.patterns.specs.Value.{Value, nan, inf, num, value_of}
use Rattle.cast_spec.specs.Element.{matches}

pub equal_numbers : (x y : ℤ) → le_z x y && le_z y x ≡ true → x ≡ y
equal_numbers x y e = go (le_z x y) (le_z y x) le_z_yes le_z_yes e
  where
    go : (c d : Bool) → (T c → x ≤ℤ y) → (T d → y ≤ℤ x) → c && d ≡ true → x ≡ y
    go true true f g e = let h = f tt in let k = g tt in →eq x y (omega ints)
    go true false f g e = let z : ◌≡◌ {A = ℕ} 0 1 = cc in absurd (omega arith)
    go false d f g e = let z : ◌≡◌ {A = ℕ} 0 1 = cc in absurd (omega arith)

itself : (x : ℤ) → le_z x x ≡ true
itself x = is_true (le_z x x) (≤ℤ_refl x).le

matches_itself : (v : Value) → matches v v ≡ true
matches_itself nan = refl
matches_itself (inf true) = refl
matches_itself (inf false) = refl
matches_itself (num x) = ap₂ ◌&&◌ (itself x) (itself x)

-- a test that leads to a contradiction is false
pub false_if_absurd : (b : Bool) → (b ≡ true → ⊥) → b ≡ false
false_if_absurd true f = absurd (f refl)
false_if_absurd false f = refl

pub same_pattern : (k : Kind) (a key : ℕ) → a ≡ key → true ≡ matches (value_of k a) (value_of k key)
same_pattern k a key e = sym (ap (λ (z : ℕ). matches (value_of k z) (value_of k key)) e ∙ matches_itself (value_of k key))

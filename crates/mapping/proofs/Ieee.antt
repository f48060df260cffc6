-- Floats of the language match exactly where they are equal or both are NaNs, that is, differ from themselves.
use mathlib.Core.Path.{◌≡◌, refl, sym, ap, ap₂, ◌∙◌}
use mathlib.Core.Bool.{Bool, true, false, not, ◌&&◌, ◌||◌, beq, and-true, and-false, and_self, and_comm, or-false}
use Prim.Native.Nat.{ℕ, zero, suc, ◌*◌, ◌^◌, ◌<◌}
use native.Mathlib.Nat.{eq_of_mul-eq-mul_right, mul_assoc, mul_comm, mul-pos, mul_right_comm, zero-mul}
use native.Mathlib.Omega.{arith}
use lib.Dec.{leb, eqb, eqb-suc-zero, eqb-zero-suc, eqb-suc-suc}
use lib.Ieee.{Float, up, down, level, eq, ne, is_nan}
use lib.Ieee.Fits.{down_pos}
use lib.IntN.{ℤ}
use borrow.Author.Tests.{leb-true, leb-false, eq-eqb, ne_eqb, eqb-true, eqb-false}
use Rattle.grid.specs.Round.{signed}
use Rattle.patterns.specs.Value.{Value, num}
use Rattle.patterns.proofs.AnyKind.{unit_pos}
use Rattle.patterns.proofs.Ieee.{Agrees}
use Rattle.cast_spec.specs.Element.{matches}
use lib.Ieee as F

-- ---- finite floats
equal_by_order : (a b : ℕ) → eqb a b ≡ leb a b && leb b a
equal_by_order a b = go (leb a b) (leb b a) refl refl
  where
    go : (c d : Bool) → leb a b ≡ c → leb b a ≡ d → eqb a b ≡ c && d
    go true true e f = eq-eqb a b (omega (arith, leb-true a b e, leb-true b a f))
    go true false e f = ne_eqb a b (λ (g : a ≡ b). omega (arith, leb-false b a f))
    go false d e f = ne_eqb a b (λ (g : a ≡ b). omega (arith, leb-false a b e))

-- magnitudes with signs
signed_match : (s t : Bool) (a b : ℕ) → level s a t b ≡ matches (num (signed s a)) (num (signed t b))
signed_match false false a b = and-true (eqb a b) ∙ equal_by_order a b
signed_match false true a zero = and_self (eqb a 0) ∙ equal_by_order a 0
signed_match false true zero (suc b) = simp eqb-zero-suc
signed_match false true (suc a) (suc b) = simp (eqb-suc-zero, and-false)
signed_match true false zero b = and-true (eqb 0 b) ∙ equal_by_order 0 b
signed_match true false (suc a) b = simp (eqb-suc-zero, and-false)
signed_match true true zero zero = refl
signed_match true true zero (suc b) = simp eqb-zero-suc
signed_match true true (suc a) zero = simp eqb-suc-zero
signed_match true true (suc a) (suc b) = and-true (eqb (suc a) (suc b)) ∙ eqb-suc-suc a b ∙ equal_by_order a b ∙ and_comm (leb a b) (leb b a)

-- the fractions p / w and q / w are a / u and b / u
same_fractions : (p q a b u w : ℕ) → 0 < u → 0 < w → p * u ≡ a * w → q * u ≡ b * w → eqb p q ≡ eqb a b
same_fractions p q a b u w U W e f = go (eqb p q) refl
  where
    go : (t : Bool) → eqb p q ≡ t → t ≡ eqb a b
    go true h = sym (eq-eqb a b (eq_of_mul-eq-mul_right w W a b (sym e ∙ ap (λ (z : ℕ). z * u) (eqb-true p q h) ∙ f)))
    go false h = sym (ne_eqb a b (λ g. eqb-false p q h (eq_of_mul-eq-mul_right u U p q (e ∙ ap (λ (z : ℕ). z * w) g ∙ sym f))))

-- two finite floats that are a and b in units of 1 / u
module _ (u : ℕ) (positive : 0 < u) (m n : ℕ) (e d : ℤ) (a b : ℕ) (left : m * up e * u ≡ a * down e) (right : n * up d * u ≡ b * down d) where
  abbrev w : ℕ
  w = down e * down d

  w_pos : 0 < w
  w_pos = mul-pos (down_pos e) (down_pos d)

  left_over : m * up e * down d * u ≡ a * w
  left_over = mul_right_comm (m * up e) (down d) u ∙ ap (λ (z : ℕ). z * down d) left ∙ mul_assoc a (down e) (down d)

  right_over : n * up d * down e * u ≡ b * w
  right_over = mul_right_comm (n * up d) (down e) u ∙ ap (λ (z : ℕ). z * down e) right ∙ mul_assoc b (down d) (down e) ∙ ap (λ (z : ℕ). b * z) (mul_comm (down d) (down e))

  equal_alike : eqb (m * up e * down d) (n * up d * down e) ≡ eqb a b
  equal_alike = same_fractions _ _ a b u w positive w_pos left_over right_over

  zero_alike : eqb (m * up e * down d) 0 ≡ eqb a 0
  zero_alike = same_fractions _ 0 a 0 u w positive w_pos left_over (zero-mul u ∙ sym (zero-mul w))

  finite_match : (s t : Bool) → eq (F.fin s m e) (F.fin t n d) ≡ matches (num (signed s a)) (num (signed t b))
  unfolding eq
  finite_match s t = ap₂ (λ (i j : Bool). i && (beq s t || j)) equal_alike zero_alike ∙ signed_match s t a b

-- ---- any floats
match_by_nan : (x y : Float) (v w : Value) → Agrees x v → Agrees y w → eq x y || is_nan x && is_nan y ≡ matches v w
unfolding eq is_nan
match_by_nan F.nan F.nan v w a b = sym (ap₂ matches a b)
match_by_nan F.nan (F.inf t) v w a b = sym (ap₂ matches a b)
match_by_nan F.nan (F.fin t n d) v w a b = sym (ap₂ matches a b.2)
match_by_nan (F.inf s) F.nan v w a b = sym (ap₂ matches a b)
match_by_nan (F.inf s) (F.inf t) v w a b = or-false (beq s t) ∙ sym (ap₂ matches a b)
match_by_nan (F.inf s) (F.fin t n d) v w a b = sym (ap₂ matches a b.2)
match_by_nan (F.fin s m e) F.nan v w a b = sym (ap₂ matches a.2 b)
match_by_nan (F.fin s m e) (F.inf t) v w a b = sym (ap₂ matches a.2 b)
match_by_nan (F.fin s m e) (F.fin t n d) v w a b =
    or-false (eq (F.fin s m e) (F.fin t n d)) ∙ finite_match (2 ^ 1074) unit_pos m n e d a.0 b.0 a.1 b.1 s t ∙ sym (ap₂ matches a.2 b.2)

only_nan_differs : (x : Float) → ne x x ≡ is_nan x
unfolding ne is_nan
only_nan_differs F.nan = refl
only_nan_differs (F.inf true) = refl
only_nan_differs (F.inf false) = refl
only_nan_differs (F.fin true m e) = ap (λ (t : Bool). not (t && true)) (eq-eqb (m * up e * down e) _ refl)
only_nan_differs (F.fin false m e) = ap (λ (t : Bool). not (t && true)) (eq-eqb (m * up e * down e) _ refl)

pub floats_match : (x y : Float) (v w : Value) → Agrees x v → Agrees y w → eq x y || ne x x && ne y y ≡ matches v w
floats_match x y v w a b = ap₂ (λ (i j : Bool). eq x y || i && j) (only_nan_differs x) (only_nan_differs y) ∙ match_by_nan x y v w a b

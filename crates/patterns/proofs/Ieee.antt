-- The value of an f32's or f64's pattern is that of the language's own account of IEEE 754, `lib.Ieee.of_bits`.
use mathlib.Core.Path.{◌≡◌, refl, sym, ap, ap₂, subst, ◌∙◌}
use mathlib.Core.Bool.{Bool, true, false, cond}
use Prim.Native.Nat.{ℕ, zero, suc, ◌+◌, ◌-◌, ◌*◌, ◌/◌, ◌%◌, ◌^◌, ◌≤◌, ◌<◌}
use native.Mathlib.Nat.{div-add-mod', mod-lt, mul_assoc, mul-one, mul_right_comm, mul-le-mul_right, le_trans, le_of_eq, lt_of_lt_of_le, one-mul, add-zero, mul_comm, div-lt_iff_lt-mul}
use native.Mathlib.Omega.{arith}
use lib.Dec.{leb, eqb, lit<}
use lib.Ieee.{Float, Format, binary32, binary64, prec, low, hid, ones, top, up, down, odd, of_fields, of_bits}
use lib.Ieee.Exact.{HasValue, odd_sign}
use lib.Pow.{pow_pos, pow-add, mod-mod-pow}
use borrow.Author.Tests.{eqb-true, eqb-false}
use Rattle.grid.specs.Round.{signed}
use Rattle.patterns.specs.Float.{field_mag, bits_mag, inf_bits}
use Rattle.patterns.specs.Kind.{Kind, binary}
use Rattle.patterns.specs.Value.{Value, nan, inf, num, float_value, value_of}
use Rattle.patterns.proofs.Floats.{is_num, is_inf, is_nan}
use lib.Ieee as F

-- a value of the language and a pattern's value are one: a NaN, the same infinity, or the same number with the same sign
abbrev pub Agrees : Float → Value → Type 0
Agrees F.nan v = v ≡ nan
Agrees (F.inf s) v = v ≡ inf s
Agrees (F.fin s m e) v = (n : ℕ) × (m * up e * 2 ^ 1074 ≡ n * down e) × (v ≡ num (signed s n))

finite : (x : Float) (s : Bool) (n : ℕ) (v : Value) → HasValue x s n (2 ^ 1074) → v ≡ num (signed s n) → Agrees x v
finite F.nan s n v h e = absurd h
finite (F.inf t) s n v h e = absurd h
finite (F.fin t m k) s n v h e = (n, h.1, e ∙ ap (λ (z : Bool). num (signed z n)) (sym h.0))

scale : (x : Float) (s : Bool) (a l d k : ℕ) → l + d ≡ k → HasValue x s a (2 ^ l) → HasValue x s (a * 2 ^ d) (2 ^ k)
scale F.nan s a l d k e h = absurd h
scale (F.inf t) s a l d k e h = absurd h
scale (F.fin t m x) s a l d k e h = (
  h.0,
  ap (λ (z : ℕ). m * up x * 2 ^ z) (sym e) ∙ ap (λ (z : ℕ). m * up x * z) (pow-add 2 l d) ∙ sym (mul_assoc (m * up x) (2 ^ l) (2 ^ d)) ∙ ap (λ (z : ℕ). z * 2 ^ d) h.1 ∙ mul_right_comm a (down x) (2 ^ d),
)

module _ (f : Format) (w s : ℕ) (o : ones f ≡ 2 ^ w - 1) (some : 0 < ones f) (l : low f + s ≡ 1074) (neg : Bool) (x : ℕ) where
  inf_is : inf_bits (prec f) w ≡ ones f * hid f
  inf_is = ap (λ (z : ℕ). z * hid f) (sym o)

  below_ones : x < ones f * hid f → float_value (prec f) w s neg x ≡ num (signed neg (bits_mag (prec f) s x))
  below_ones h = is_num (prec f) w s neg x (subst (λ (z : ℕ). x < z) (sym inf_is) h)

  module _ (small : x / hid f ≤ ones f) where
    by_field : (F t : ℕ) → x / hid f ≡ F → x % hid f ≡ t → Agrees (of_fields f neg F t) (float_value (prec f) w s neg x)
    unfolding of_fields bits_mag field_mag
    by_field zero t a b =
        let X : x ≡ 0 * hid f + t = sym (div-add-mod' x (hid f)) ∙ ap₂ (λ (i j : ℕ). i * hid f + j) a b in
        let T : t < hid f = subst (λ (z : ℕ). z < hid f) b (mod-lt x (pow_pos (prec f - 1))) in
        let h : x < ones f * hid f = lt_of_lt_of_le (omega arith) (le_trans (le_of_eq (sym (one-mul (hid f)))) (mul-le-mul_right (hid f) some)) in
        finite (odd (prec f) neg t 0 (low f)) neg (t * 2 ^ 0 * 2 ^ s) _ (scale (odd (prec f) neg t 0 (low f)) neg (t * 2 ^ 0) (low f) s 1074 l (odd_sign (prec f) neg t 0 (low f)))
        (below_ones h ∙ ap₂ (λ (i j : ℕ). num (signed neg (field_mag (prec f) s i j))) a b ∙ ap (λ (z : ℕ). num (signed neg (z * 2 ^ s))) (sym (mul-one t)))
    by_field (suc y) t a b = go (eqb (suc y) (ones f)) refl
      where
        X : x ≡ suc y * hid f + t
        X = sym (div-add-mod' x (hid f)) ∙ ap₂ (λ (i j : ℕ). i * hid f + j) a b

        T : t < hid f
        T = subst (λ (z : ℕ). z < hid f) b (mod-lt x (pow_pos (prec f - 1)))

        special : (c : Bool) → eqb t 0 ≡ c → suc y ≡ ones f → Agrees (cond c (F.inf neg) F.nan) (float_value (prec f) w s neg x)
        special true c e = is_inf (prec f) w s neg x (X ∙ ap₂ (λ (i j : ℕ). i * hid f + j) e (eqb-true t 0 c) ∙ add-zero (ones f * hid f) ∙ sym inf_is)
        special false c e = is_nan (prec f) w s neg x (omega (arith, inf_is, X, eqb-false t 0 c, ap (λ (z : ℕ). z * hid f) e))

        go : (c : Bool) → eqb (suc y) (ones f) ≡ c → Agrees (cond c (cond (eqb t 0) (F.inf neg) F.nan) (odd (prec f) neg (hid f + t) y (low f))) (float_value (prec f) w s neg x)
        go true c = special (eqb t 0) refl (eqb-true (suc y) (ones f) c)
        go false c =
            let less : suc y < ones f = omega (arith, a, small, eqb-false (suc y) (ones f) c) in
            let h : x < ones f * hid f = lt_of_lt_of_le (omega (arith, X, T)) (mul-le-mul_right {m = suc (suc y)} (hid f) less) in
            let q = hid f + t in
            finite (odd (prec f) neg q y (low f)) neg (q * 2 ^ y * 2 ^ s) _ (scale (odd (prec f) neg q y (low f)) neg (q * 2 ^ y) (low f) s 1074 l (odd_sign (prec f) neg q y (low f)))
            (below_ones h ∙ ap₂ (λ (i j : ℕ). num (signed neg (field_mag (prec f) s i j))) a b ∙ ap (λ (z : ℕ). num (signed neg z)) (ap (λ (z : ℕ). q * z) (pow-add 2 y s) ∙ sym (mul_assoc q (2 ^ y) (2 ^ s))))

  pub fields_agree : x / hid f ≤ ones f → Agrees (of_fields f neg (x / hid f) (x % hid f)) (float_value (prec f) w s neg x)
  fields_agree h = by_field h (x / hid f) (x % hid f) refl refl

-- ---- the two formats
abbrev pub kind_for : Format → Kind
kind_for binary32 = binary 24 8 925
kind_for binary64 = binary 53 11 0

field_small : (f : Format) (b : ℕ) → b % top f / hid f ≤ ones f
field_small f b = less ((div-lt_iff_lt-mul (pow_pos (prec f - 1))).1 (subst (λ (z : ℕ). b % top f < z) (swap (hid f) (suc (ones f))) (mod-lt b (top_pos f))))
  where
    less : {i j : ℕ} → i < suc j → i ≤ j
    less h = omega arith

    swap : (i j : ℕ) → i * j ≡ j * i
    swap i j = mul_comm i j

    top_pos : (f : Format) → 0 < top f
    top_pos binary32 = lit< tt
    top_pos binary64 = lit< tt

pub agree : (f : Format) (b : ℕ) → Agrees (of_bits f b) (value_of (kind_for f) b)
unfolding of_bits value_of
agree binary32 b = subst (λ (t : ℕ). Agrees (of_fields binary32 (leb (top binary32) b) (b % top binary32 / hid binary32) t) (value_of (kind_for binary32) b)) (mod-mod-pow b 8 23)
    (fields_agree binary32 8 925 refl (lit< tt) refl (leb (top binary32) b) (b % top binary32) (field_small binary32 b))
agree binary64 b = subst (λ (t : ℕ). Agrees (of_fields binary64 (leb (top binary64) b) (b % top binary64 / hid binary64) t) (value_of (kind_for binary64) b)) (mod-mod-pow b 11 52)
    (fields_agree binary64 11 0 refl (lit< tt) refl (leb (top binary64) b) (b % top binary64) (field_small binary64 b))

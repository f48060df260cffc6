-- A float's fields as those of an f32: what these are, for f32 and any format narrower than it.
use mathlib.Core.Path.{◌≡◌, refl, sym, ap, ap₂, subst, ◌∙◌}
use mathlib.Core.Bool.{Bool, cond}
use Prim.Native.Nat.{ℕ, ◌+◌, ◌-◌, ◌*◌, ◌%◌, ◌^◌, ◌≤◌, ◌<◌}
use native.Mathlib.Nat.{add-mul, lt_of_lt_of_le, le_of_eq, mod-eq_of_lt, mod-lt}
use native.Mathlib.Omega.{arith}
use lib.Bits.{bit_and, and_mask}
use lib.Dec.{eqb, lit≤}
use lib.Pow.{pow-add, pow_pos, shl_exact, shl_lt}
use borrow.Author.Tests.{eq-eqb, ne_eqb}
use Rattle.grid.proofs.Neighbours.{cut}
use Rattle.patterns.specs.Pattern.{quiet}
use Rattle.patterns.proofs.Quiet.{low_of_shifted, quiet_at_top, times_pow}
use Rattle.float_fields.specs.Parts.{field_of, fraction_of, parts_of}
use Rattle.float_fields.specs.Widened.{Widens, WidenedFields, widened_field, widened_of}
use Rattle.float_fields.specs.declared.Parts.{Parts}
use Rattle.float_fields.specs.declared.Widened.{Widened}
use Rattle.float_fields.proofs.Fields.{field_le, fraction_lt}

-- ---- the exponent field, by the three ranges of the format's own
module _ (w start x : ℕ) where
  pub field_0 : x ≡ 0 → 0 ≡ widened_field w start x
  field_0 e = sym (ap (λ (c : Bool). cond c 0 (cond (eqb x (2 ^ w - 1)) 255 (x + start))) (eq-eqb x 0 e))

  pub field_between : 0 < x → x < 2 ^ w - 1 → x + start ≡ widened_field w start x
  field_between h l = sym (
      ap (λ (c : Bool). cond c 0 (cond (eqb x (2 ^ w - 1)) 255 (x + start))) (ne_eqb x 0 (λ (e : x ≡ 0). omega arith))
      ∙ ap (λ (c : Bool). cond c 255 (x + start)) (ne_eqb x (2 ^ w - 1) (λ (e : x ≡ 2 ^ w - 1). omega arith)))

  pub field_of_ones : 0 < x → x ≡ 2 ^ w - 1 → 255 ≡ widened_field w start x
  field_of_ones h e = sym (
      ap (λ (c : Bool). cond c 0 (cond (eqb x (2 ^ w - 1)) 255 (x + start))) (ne_eqb x 0 (λ (z : x ≡ 0). omega arith))
      ∙ ap (λ (c : Bool). cond c 255 (x + start)) (eq-eqb x (2 ^ w - 1) e))

-- ---- and back
pub record Sorted (w start x y : ℕ) : Type 0 where
  pub zero_of : y ≡ 0 → x ≡ 0
  pub between : 0 < y → y < 255 → (0 < x) × (x < 2 ^ w - 1) × (y ≡ x + start)
  pub ones : 255 ≤ y → 2 ^ w - 1 ≤ x
  pub most : y ≤ 255

sorted : (w start x : ℕ) → 0 < w → x ≤ 2 ^ w - 1 → 2 ^ w + start ≤ 256 → Sorted w start x (widened_field w start x)
sorted w start x some most within = cut 0 x
    (λ (h : 0 < x). cut x (2 ^ w - 1)
    (λ (l : x < 2 ^ w - 1). subst (Sorted w start x) (field_between w start x h l) (record { zero_of = λ (e : x + start ≡ 0). absurd (omega arith); between = λ _ _. (h, l, refl); ones = λ (g : 255 ≤ x + start). absurd (omega arith); most = omega arith }))
    (λ (l : 2 ^ w - 1 ≤ x). subst (Sorted w start x) (field_of_ones w start x h (omega arith)) (record { zero_of = λ (e : 255 ≡ 0). absurd (omega arith); between = λ _ (g : 255 < 255). absurd (omega arith); ones = λ _. l; most = lit≤ tt })))
    (λ (h : x ≤ 0). subst (Sorted w start x) (field_0 w start x (omega arith)) (record { zero_of = λ _. omega arith; between = λ (g : 0 < 0) _. absurd (omega arith); ones = λ (g : 255 ≤ 0). absurd (omega arith); most = lit≤ tt }))

-- f32's own
pub field_own : (x : ℕ) → x ≤ 255 → x ≡ widened_field 8 0 x
field_own x most = cut 0 x
    (λ (h : 0 < x). cut x 255 (λ (l : x < 255). none x ∙ field_between 8 0 x h l) (λ (l : 255 ≤ x). all l ∙ field_of_ones 8 0 x h (all l)))
    (λ (h : x ≤ 0). zero_is h ∙ field_0 8 0 x (zero_is h))
  where
    none : (x : ℕ) → x ≡ x + 0
    none x = omega arith

    all : 255 ≤ x → x ≡ 255
    all l = omega arith

    zero_is : x ≤ 0 → x ≡ 0
    zero_is h = omega arith

-- the fields by their parts, whoever took them apart
pub widened_parts : (p w s b : ℕ) {q : Parts} → q ≡ parts_of p w b → {x y : ℕ} → x ≡ widened_field w (s - 925 - (24 - p)) q.exponent → y ≡ q.fraction * 2 ^ (24 - p)
    → ◌≡◌ {A = Widened} (record { negative = q.negative; exponent = x; fraction = y; spacing = s - (24 - p) }) (widened_of p w s b)
widened_parts p w s b is e f = rw (e, f) (ap (λ (q : Parts). record { negative = q.negative; exponent = widened_field w (s - 925 - (24 - p)) q.exponent; fraction = q.fraction * 2 ^ (24 - p); spacing = s - (24 - p) }) is)

-- ---- from the widened fields, whoever made them
module _ (p w s b : ℕ) (format : Widens p w s) (f : Widened) (is : f ≡ widened_of p w s b) where
  abbrev d : ℕ
  d = 24 - p

  abbrev start : ℕ
  start = s - 925 - (24 - p)

  abbrev t : ℕ
  t = fraction_of p b

  P : 0 < p
  P = omega (arith, format.two)

  pub exponent_of : Sorted w start (field_of p w b) f.exponent
  exponent_of = subst (Sorted w start (field_of p w b)) (sym (ap (λ (z : Widened). z.exponent) is)) (sorted w start (field_of p w b) format.positive (field_le p w b P) format.within)

  pub fraction_of_lem : f.fraction ≡ t * 2 ^ d
  fraction_of_lem = ap (λ (z : Widened). z.fraction) is

  pub negative_of : f.negative ≡ (parts_of p w b).negative
  negative_of = ap (λ (z : Widened). z.negative) is

  fraction_under : f.fraction < 2 ^ 23
  fraction_under = subst (λ (z : ℕ). z < 2 ^ 23) (sym fraction_of_lem) (lt_of_lt_of_le (shl_lt (p - 1) d (fraction_lt p w b P)) (le_of_eq (ap (λ (z : ℕ). 2 ^ z) top)))
    where
      top : p - 1 + (24 - p) ≡ 23
      top = omega (arith, format.two, format.at_most_24)

  pub widened_fields : WidenedFields f
  widened_fields = record {
    fraction_small = fraction_under;
    exponent_small = exponent_of.most;
    spacing_large = subst (λ (z : ℕ). 53 ≤ z) (sym (ap (λ (z : Widened). z.spacing) is)) (omega (arith, format.start));
  }

  pub same_magnitude : f.fraction * 2 ^ f.spacing ≡ t * 2 ^ s
  same_magnitude = ap₂ (λ (x y : ℕ). x * 2 ^ y) fraction_of_lem (ap (λ (z : Widened). z.spacing) is) ∙ times_pow t d (s - d) ∙ ap (λ (z : ℕ). t * 2 ^ z) places
    where
      places : 24 - p + (s - (24 - p)) ≡ s
      places = omega (arith, format.start)

  -- 29 places up, where f64's 53 bits begin
  up : d + 29 ≡ 53 - p
  up = omega (arith, format.at_most_24)

  pub same_significand : (2 ^ 23 + f.fraction) * 2 ^ 29 % 2 ^ 64 ≡ (2 ^ (p - 1) + t) * 2 ^ (53 - p)
  same_significand =
      mod-eq_of_lt (omega (arith, fraction_under))
      ∙ ap (λ (z : ℕ). z * 2 ^ 29) (ap₂ ◌+◌ (ap (λ (z : ℕ). 2 ^ z) top ∙ pow-add 2 (p - 1) d) fraction_of_lem ∙ sym (add-mul (2 ^ (p - 1)) t (2 ^ d)))
      ∙ times_pow (2 ^ (p - 1) + t) d 29
      ∙ ap (λ (z : ℕ). (2 ^ (p - 1) + t) * 2 ^ z) up
    where
      top : 23 ≡ p - 1 + (24 - p)
      top = omega (arith, format.two, format.at_most_24)

  abbrev pub quieted : ℕ
  quieted = 2 ^ 51 + bit_and f.fraction (2 ^ 22 - 1) * 2 ^ 29 % 2 ^ 64

  pub same_quiet : quieted ≡ quiet p 53 b
  same_quiet =
      ap (λ (z : ℕ). 2 ^ 51 + z * 2 ^ 29 % 2 ^ 64) (and_mask f.fraction 22)
      ∙ ap (λ (z : ℕ). 2 ^ 51 + z)
      (shl_exact 22 29 64 (mod-lt f.fraction (pow_pos 22)) (lit≤ tt)
      ∙ sym (low_of_shifted f.fraction 22 29)
      ∙ ap (λ (z : ℕ). z % 2 ^ 51) (ap (λ (z : ℕ). z * 2 ^ 29) fraction_of_lem ∙ times_pow t d 29 ∙ ap (λ (z : ℕ). t * 2 ^ z) up))
      ∙ sym (quiet_at_top p 53 b P (omega (arith, format.at_most_24)))

-- A number of a float format rounded to a whole number is a number of that format, has the pattern of the pick, and lies where it does.
use mathlib.Core.Path.{◌≡◌, refl, sym, ap, ap₂, subst, ◌∙◌}
use mathlib.Core.Bool.{Bool}
use mathlib.Core.List.{[], ◌∷◌}
use mathlib.Core.Logic.{⊎_elim}
use Prim.Native.Nat.{ℕ, ◌+◌, ◌-◌, ◌*◌, ◌%◌, ◌^◌, ◌≤◌, ◌<◌}
use native.Mathlib.Nat.{le_of_eq, le_of_lt, le_of_mul-le-mul_right, le_refl, le_trans, lt_of_le_of_lt, mod-eq_of_lt, mul-le-mul_right}
use native.Mathlib.Omega.{arith}
use lib.Dec.{lit<, lit≤}
use lib.IntN.{nat_abs}
use lib.Pow.{pow-add, pow_mono, pow_pos, shl_lt}
use denote.Enum.Declared.{tag_of}
use types.Run.{OneOf}
use Rattle.grid.specs.Grid.{OnMag, float, whole}
use Rattle.grid.specs.Round.{pick_mag, rule_for, signed}
use Rattle.grid.specs.Ternary.{ternary_of, ternary_for}
use Rattle.grid.specs.declared.Rounded.{Rounded}
use Rattle.grid.specs.declared.RoundingMode.{RoundingMode}
use Rattle.grid.specs.declared.Ternary.{Ternary}
use Rattle.grid.specs.declared.Ternary.TheVariants.{Exact}
use Rattle.grid.proofs.Kept.{pick_exact, pick_signed}
use Rattle.grid.proofs.Neighbours.{cut, finer, pow_twice_pred}
use Rattle.grid.proofs.Picked.{picked_pos, pick_mag_mono}
use Rattle.grid.proofs.Sides.{exact_is}
use Rattle.patterns.specs.Float.{bits_mag, inf_bits}
use Rattle.patterns.specs.Kind.{Kind, binary}
use Rattle.patterns.specs.Pattern.{mag_bits, pattern_of, with_sign}
use Rattle.patterns.specs.Value.{Value, nan, inf, num, value_of}
use Rattle.patterns.proofs.AnyKind.{largest_bits}
use Rattle.patterns.proofs.Floats.{abs_signed, number_of_format}
use Rattle.float_fields.specs.Format.{Format}
use Rattle.scaled.specs.Scaled.{Canonical, finite_bits, scaled_of}
use Rattle.scaled.specs.declared.Scaled.{Scaled}
use Rattle.scaled.proofs.Magnitudes.{scaled_bits, scaled_only, scaled_whole}
use Rattle.floats.specs.Form.{class_for, float_of}
use Rattle.floats.specs.declared.Class.TheVariants.{Finite}
use Rattle.floats.specs.declared.Float.{Float}
use Rattle.floats.specs.contracts.Class.{the_type}
use Rattle.floats.proofs.Values.{read_value, scaled_canonical}
use Rattle.rounding.specs.Rounding.{units_of}
use Rattle.rounding.proofs.Units.{whole_times_unit}
use Rattle.narrowing.specs.Format.{narrowed}
use Rattle.integral.specs.Integral.{rounded_from, rounded_of}
use Rattle.integral.specs.declared.WholeMagnitude.{WholeMagnitude}
use Rattle.integral.specs.Whole.{exactly, integral_of}

-- ---- a magnitude of p significant bits below the spacing 1
module _ (r : RoundingMode) (p m e : ℕ) (positive : 0 < p) (small : m < 2 ^ p) (below : e < 1074) where
  near : m * 2 ^ e ≤ 2 ^ (p - 1) * 2 ^ 1074
  near = le_trans (le_of_lt (shl_lt p e small)) (le_trans (pow_mono {i = p + e} {j = p - 1 + 1074} (omega arith)) (le_of_eq (pow-add 2 (p - 1) 1074)))

  pub units_le : units_of 1074 r (m * 2 ^ e) ≤ 2 ^ (p - 1)
  units_le = le_of_mul-le-mul_right (le_trans (le_of_eq (sym (whole_times_unit r 1074 (m * 2 ^ e)))) (le_trans (pick_mag_mono (whole 1074) tt r (m * 2 ^ e) (2 ^ (p - 1) * 2 ^ 1074) near) (le_of_eq (pick_exact (whole 1074) tt r (2 ^ (p - 1)) 1074 (le_refl 1074))))) (pow_pos 1074)

  pub units_lt : units_of 1074 r (m * 2 ^ e) < 2 ^ p
  units_lt = lt_of_le_of_lt units_le (omega (arith, pow_pos (p - 1), pow_twice_pred p positive))

-- ---- on the format's own grid
pub whole_on : (r : RoundingMode) (p s n : ℕ) → 0 < p → s ≤ 1074 → OnMag (float p s) n → OnMag (float p s) (pick_mag (whole 1074) r n)
whole_on r p s n positive within on =
    let m = on.m in
    let e = on.e in
    let small = on.written.0 in
    subst (λ (z : ℕ). OnMag (float p s) (pick_mag (whole 1074) r z)) (sym on.written.2)
    (cut e 1074
    (λ (h : e < 1074). record { m = units_of 1074 r (m * 2 ^ e); e = 1074; written = (units_lt r p m e positive small h, within, whole_times_unit r 1074 (m * 2 ^ e)) })
    (λ (h : 1074 ≤ e). record { m = m; e = e; written = (small, on.written.1, pick_exact (whole 1074) tt r m e h) }))

-- ---- by significand and exponent
in_64_bits : (q : ℕ) → q < 2 ^ 53 → q % 2 ^ 64 ≡ q
in_64_bits q h = mod-eq_of_lt (omega arith)

module _ (r : RoundingMode) (x : Scaled) (canonical : Canonical x) where
  abbrev n : ℕ
  n = x.significand * 2 ^ x.exponent

  pub whole_already : 1074 ≤ x.exponent → x ≡ scaled_of (pick_mag (whole 1074) r n)
  whole_already h = scaled_only x.significand x.exponent canonical.small canonical.leading ∙ ap scaled_of (sym (pick_exact (whole 1074) tt r x.significand x.exponent h))

  module _ (below : x.exponent < 1074) where
    units : units_of 1074 r n < 2 ^ 53
    units = units_lt r 53 x.significand x.exponent (lit< tt) canonical.small below

    pub count_lt : units_of 1074 r n % 2 ^ 64 < 2 ^ 53
    count_lt = lt_of_le_of_lt (le_of_eq (in_64_bits (units_of 1074 r n) units)) units

    pub count_times : units_of 1074 r n % 2 ^ 64 * 2 ^ 1074 ≡ pick_mag (whole 1074) r n
    count_times = ap (λ (z : ℕ). z * 2 ^ 1074) (in_64_bits (units_of 1074 r n) units) ∙ sym (whole_times_unit r 1074 n)

  on_f64 : OnMag (float 53 0) n
  on_f64 = record { m = x.significand; e = x.exponent; written = (canonical.small, omega arith, refl) }

  within_f64 : x.exponent < 1074 → pick_mag (whole 1074) r n ≤ bits_mag 53 0 (inf_bits 53 11 - 1)
  unfolding bits_mag
  within_f64 h =
      le_trans (le_of_eq (whole_times_unit r 1074 n))
      (le_trans (mul-le-mul_right (2 ^ 1074) (units_le r 53 x.significand x.exponent (lit< tt) canonical.small h)) (lit≤ tt))

  pub whole_canonical : Canonical (scaled_of (pick_mag (whole 1074) r n))
  whole_canonical = cut x.exponent 1074
      (λ (h : x.exponent < 1074). scaled_canonical (pick_mag (whole 1074) r n) (whole_on r 53 0 n (lit< tt) (lit≤ tt) on_f64) (within_f64 h))
      (λ (h : 1074 ≤ x.exponent). subst Canonical (whole_already h) canonical)

-- ---- the pick's magnitude, and where the pick lies
pub integral_at : (neg : Bool) (mode : RoundingMode) (n : ℕ) (m : Scaled) (t : Ternary) → m ≡ scaled_of (pick_mag (whole 1074) (rule_for neg mode) n) → t ≡ ternary_for (whole 1074) neg mode n → record { magnitude = m; ternary = t } ≡ integral_of neg mode n
integral_at neg mode n m t e l = rw (e, l)

pub whole_exact : (neg : Bool) (mode : RoundingMode) (m e : ℕ) → 1074 ≤ e → Exact ≡ ternary_for (whole 1074) neg mode (m * 2 ^ e)
whole_exact neg mode m e h = sym (exact_is _ _ (ap (signed neg) (pick_exact (whole 1074) tt (rule_for neg mode) m e h)))

pub whole_stays : (neg : Bool) (mode : RoundingMode) (x : Scaled) → Canonical x → 1074 ≤ x.exponent → record { magnitude = x; ternary = Exact } ≡ integral_of neg mode (x.significand * 2 ^ x.exponent)
whole_stays neg mode x canonical h = integral_at neg mode (x.significand * 2 ^ x.exponent) x Exact (whole_already (rule_for neg mode) x canonical h) (whole_exact neg mode x.significand x.exponent h)

-- ---- the pattern of the pick, of an element x that was read of the pattern b
module _ (p w s : ℕ) (mode : RoundingMode) (b : ℕ) (x : Float) (is : x ≡ float_of (binary p w s) b) where
  abbrev k : Kind
  k = binary p w s

  -- a class that is not `Finite`, as a program tells it: by the number of its variant
  pub stays : OneOf (1 ∷ 2 ∷ []) (tag_of the_type x.class) → record { bits = b; ternary = Exact } ≡ rounded_of k mode b
  stays t = go (value_of k b) (subst (λ (f : Float). OneOf (1 ∷ 2 ∷ []) (tag_of the_type f.class)) is t)
    where
      go : (v : Value) → OneOf (1 ∷ 2 ∷ []) (tag_of the_type (class_for k b v)) → record { bits = b; ternary = Exact } ≡ rounded_from k mode b v
      go (num y) t = absurd (⊎_elim (λ (e : ◌≡◌ {A = ℕ} 0 1). omega arith) (λ (e : ◌≡◌ {A = ℕ} 0 2). omega arith) t)
      go (inf neg) t = refl
      go nan t = refl

  module _ (two : 2 ≤ p) (positive : 0 < w) (most : p ≤ 53) (room : bits_mag p s (inf_bits p w - 1) ≤ bits_mag 53 0 (inf_bits 53 11 - 1)) (within : s ≤ 1074) (m : Scaled) (finite : x.class ≡ Finite m) where
    abbrev neg : Bool
    neg = x.negative

    abbrev P : ℕ
    P = pick_mag (whole 1074) (rule_for neg mode) (m.significand * 2 ^ m.exponent)

    value : value_of k b ≡ num (signed neg (m.significand * 2 ^ m.exponent))
    value = read_value p w s two positive most room b x is m finite

    pub own_grid : OnMag (float p s) P
    own_grid = whole_on (rule_for neg mode) p s _ (omega arith) within (subst (λ (z : ℕ). OnMag (float p s) z) (abs_signed neg _) (number_of_format p w s two positive b _ value).0)

    pub own_range : OnMag (whole 1074) (bits_mag p s (inf_bits p w - 1)) → P ≤ bits_mag p s (inf_bits p w - 1)
    own_range top =
        le_trans
        (pick_mag_mono (whole 1074) tt (rule_for neg mode) _ _ (subst (λ (z : ℕ). z ≤ bits_mag p s (inf_bits p w - 1)) (abs_signed neg _) (largest_bits p w s _ (number_of_format p w s two positive b _ value).1)))
        (le_of_eq (ap nat_abs ((picked_pos (whole 1074) tt (rule_for neg mode) (bits_mag p s (inf_bits p w - 1))).itself top)))

    pub rounded_pattern : (t : Ternary) → t ≡ ternary_for (whole 1074) neg mode (m.significand * 2 ^ m.exponent) → record { bits = with_sign (w + p) neg (mag_bits p s P); ternary = t } ≡ rounded_of k mode b
    unfolding pattern_of
    rounded_pattern t lies =
        let n = m.significand * 2 ^ m.exponent in
        let signed_pick = pick_signed (whole 1074) tt mode neg n in
        ap₂ {C = Rounded} (λ (z : ℕ) (t : Ternary). record { bits = z; ternary = t })
        (ap₂ (λ (c : Bool) (z : ℕ). with_sign (w + p) c (mag_bits p s z)) (ap (λ (f : Float). f.negative) is) (sym (ap nat_abs signed_pick ∙ abs_signed neg P)))
        (lies ∙ ap (ternary_of (signed neg n)) (sym signed_pick))
        ∙ ap (rounded_from k mode b) (sym value)

    -- by significand and exponent it is the same
    pub own_value : (i : WholeMagnitude) → i ≡ integral_of neg mode (m.significand * 2 ^ m.exponent) → i.magnitude.significand * 2 ^ i.magnitude.exponent ≡ P
    own_value i e = ap (λ (w : WholeMagnitude). w.magnitude.significand * 2 ^ w.magnitude.exponent) e ∙ scaled_whole P (finer p s 53 0 P most (omega arith) own_grid)

-- ---- a magnitude of the format, in its bits
pub written_in_f64 : (p w s : ℕ) → Format p w s → p ≡ 53 → (x : Scaled) → Canonical x → OnMag (float p s) (x.significand * 2 ^ x.exponent) → record { bits = finite_bits x; ternary = Exact } ≡ exactly (mag_bits p s (x.significand * 2 ^ x.exponent))
written_in_f64 p w s f e x canonical on =
    ap exactly
    (subst (λ (q : ℕ). OnMag (float q s) n → finite_bits x ≡ mag_bits q s n) (sym e)
    (subst (λ (u : ℕ). OnMag (float 53 u) n → finite_bits x ≡ mag_bits 53 u n) (sym none)
    (λ (on : OnMag (float 53 0) n). ap finite_bits (scaled_only x.significand x.exponent canonical.small canonical.leading) ∙ scaled_bits n on))
    on)
  where
    n : ℕ
    n = x.significand * 2 ^ x.exponent

    none : s ≡ 0
    none = ⊎_elim (λ (l : (p < 53) × (53 - p < s)). absurd (omega (arith, l.0))) (λ (k : (p ≡ 53) × (w ≡ 11) × (s ≡ 0)). k.2) f.narrower_or_f64

pub written_narrower : (p s : ℕ) → 2 ≤ p → (neg : Bool) (mode : RoundingMode) (n : ℕ) → OnMag (float p s) n → narrowed p s neg mode n ≡ exactly (mag_bits p s n)
written_narrower p s two neg mode n on =
    let itself : pick_mag (float p s) (rule_for neg mode) n ≡ n = ap nat_abs ((picked_pos (float p s) two (rule_for neg mode) n).itself on) in
    ap₂ {C = Rounded} (λ (z : ℕ) (t : Ternary). record { bits = z; ternary = t }) (ap (mag_bits p s) itself) (exact_is _ _ (ap (signed neg) itself))

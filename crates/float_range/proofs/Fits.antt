-- What a pick comes to in a float kind, by its bits: stored in range, and past it as the range choice says.
use mathlib.Core.Path.{◌≡◌, refl, sym, ap, ap₂, ◌∙◌}
use mathlib.Core.Bool.{Bool, cond}
use Prim.Native.Nat.{ℕ, ◌+◌, ◌-◌, ◌^◌, ◌≤◌, ◌<◌}
use native.Mathlib.Omega.{arith}
use lib.IntN.{ℤ}
use borrow.Author.Tests.{le-ltb, lt-ltb}
use Rattle.grid.specs.Grid.{float}
use Rattle.grid.specs.Round.{pick, pick_mag, rule_for, signed}
use Rattle.grid.specs.Ternary.{ternary_of, ternary_for}
use Rattle.grid.specs.declared.RoundingMode.{RoundingMode}
use Rattle.grid.specs.declared.Ternary.{Ternary}
use Rattle.grid.proofs.Kept.{pick_signed}
use Rattle.grid.proofs.Neighbours.{cut}
use Rattle.grid.proofs.Picked.{picked_pos}
use Rattle.patterns.specs.Float.{bits_mag, inf_bits}
use Rattle.patterns.specs.Kind.{Kind, InRange, binary}
use Rattle.patterns.specs.Pattern.{mag_bits, pattern_of, with_sign}
use Rattle.patterns.proofs.Floats.{abs_signed, bits_in_range, bits_past_range, inf_lt, mag_back}
use Rattle.counts.specs.Counts.{by_pick}
use Rattle.codes.specs.declared.OutOfRangeMode.{OutOfRangeMode}
use Rattle.codes.specs.declared.OutOfRangeMode.TheVariants.{None, Clamp, Wrap}
use Rattle.cast_spec.specs.Element.{beyond, ranged}
use Rattle.cast_spec.proofs.Steps.{by_range}
use Rattle.cast_spec.specs.Fit.{fit_of, fit_number}
use Rattle.float_range.specs.Range.{FormatBits, overrun_fit, fit_bits}
use Rattle.float_fields.proofs.Signs.{signed_fits}
use Rattle.answers.specs.Outcome.{Outcome, fit_as, stored_as}
use Rattle.answers.specs.declared.ConversionError.TheVariants.{OutOfRange}
use Rattle.std.specs.Prelude.{Err}

-- ---- a pick in range is stored, and one past it goes as the range choice says
module _ (k : Kind) (range : OutOfRangeMode) (v : ℕ) (neg : Bool) (x y : ℤ) where
  pub in_range_stored : InRange k y → ranged k range v neg x y ≡ stored_as (pattern_of k neg y) (by_pick (ternary_of x y))
  in_range_stored h = (by_range (λ (o : Outcome). ranged k range v neg x y ≡ o) k y (stored_as (pattern_of k neg y) (by_pick (ternary_of x y))) (beyond k range v neg y) refl).0 h

  past_range_beyond : (InRange k y → ⊥) → ranged k range v neg x y ≡ beyond k range v neg y
  past_range_beyond n = (by_range (λ (o : Outcome). ranged k range v neg x y ≡ o) k y (stored_as (pattern_of k neg y) (by_pick (ternary_of x y))) (beyond k range v neg y) refl).1 n

-- past the range of a float kind
past_fit : (p w s : ℕ) (neg : Bool) (y : ℤ) (range : OutOfRangeMode) → overrun_fit p w neg range ≡ fit_of (beyond (binary p w s) range 0 neg y)
unfolding beyond
past_fit p w s neg y None = refl
past_fit p w s neg y Clamp = refl
past_fit p w s neg y Wrap = refl

-- ---- the two sides of an infinity's bits
module _ (p w : ℕ) (neg : Bool) (range : OutOfRangeMode) (r : ℕ) (t : Ternary) where
  pub bits_fit : r < inf_bits p w → fit_as (with_sign (w + p) neg r) (by_pick t) ≡ fit_bits p w neg range r t
  bits_fit h = sym (ap (λ (c : Bool). cond c (fit_as (with_sign (w + p) neg r) (by_pick t)) (overrun_fit p w neg range)) (lt-ltb r (inf_bits p w) h))

  pub overrun_fit_lem : inf_bits p w ≤ r → overrun_fit p w neg range ≡ fit_bits p w neg range r t
  overrun_fit_lem h = sym (ap (λ (c : Bool). cond c (fit_as (with_sign (w + p) neg r) (by_pick t)) (overrun_fit p w neg range)) (le-ltb r (inf_bits p w) h))

pub refused_fit : (p w : ℕ) (neg : Bool) (range : OutOfRangeMode) → (range ≡ Clamp → ⊥) → Err OutOfRange ≡ overrun_fit p w neg range
refused_fit p w neg None other = refl
refused_fit p w neg Clamp other = absurd (other refl)
refused_fit p w neg Wrap other = refl

-- ---- a finite magnitude n of the sign neg, by the bits r of its pick and where that lies
module _ (p w s : ℕ) (two : 2 ≤ p) (some : 0 < w) (mode : RoundingMode) (range : OutOfRangeMode) (neg : Bool) (n r : ℕ) (is : r ≡ mag_bits p s (pick_mag (float p s) (rule_for neg mode) n)) (t : Ternary) (lies : t ≡ ternary_for (float p s) neg mode n) where
  abbrev k : Kind
  k = binary p w s

  abbrev x : ℤ
  x = signed neg n

  abbrev y : ℤ
  y = signed neg (bits_mag p s r)

  magnitude : bits_mag p s r ≡ pick_mag (float p s) (rule_for neg mode) n
  magnitude = ap (bits_mag p s) is ∙ mag_back p w s two some _ (picked_pos (float p s) two (rule_for neg mode) n).on

  picked_bits : pick (float p s) mode x ≡ y
  picked_bits = pick_signed (float p s) two mode neg n ∙ ap (signed neg) (sym magnitude)

  fit_is : (o : Outcome) → ranged k range 0 neg x y ≡ o → fit_of o ≡ fit_number k mode range neg x
  fit_is o e = ap fit_of (sym (ap (ranged k range 0 neg x) picked_bits ∙ e))

  stored : r < inf_bits p w → ranged k range 0 neg x y ≡ stored_as (with_sign (w + p) neg r) (by_pick t)
  unfolding pattern_of
  stored h =
      in_range_stored k range 0 neg x y (bits_in_range p w s two some neg r h)
      ∙ ap₂ (λ (b : ℕ) (u : Ternary). stored_as (with_sign (w + p) neg b) (by_pick u)) (ap (mag_bits p s) (abs_signed neg (bits_mag p s r) ∙ magnitude) ∙ sym is) (ap (λ (z : ℕ). ternary_of x (signed neg z)) magnitude ∙ sym lies)

  pub number_fit : fit_bits p w neg range r t ≡ fit_number k mode range neg x
  number_fit = cut r (inf_bits p w)
      (λ (h : r < inf_bits p w). sym (bits_fit p w neg range r t h) ∙ fit_is (stored_as (with_sign (w + p) neg r) (by_pick t)) (stored h))
      (λ (h : inf_bits p w ≤ r). sym (overrun_fit_lem p w neg range r t h) ∙ past_fit p w s neg y range ∙ fit_is (beyond k range 0 neg y) (past_range_beyond k range 0 neg x y (bits_past_range p w s two some neg r h)))

-- the sign's bit over bits that are at most an infinity's
pub below_fits : (p w : ℕ) → FormatBits p w → (neg : Bool) (s x : ℕ) → s ≡ cond neg (2 ^ (w + p - 1)) 0 → x ≤ inf_bits p w → s + x < 2 ^ 64
below_fits p w f neg s x e h = signed_fits (w + p) neg s x e (omega (arith, f.two)) (omega (arith, f.fewer, f.at_most_11)) (omega (arith, inf_lt p w 0 f.two f.positive))

-- A whole number and an integer kind's range, by sign and magnitude, in any unit u.
use mathlib.Core.Path.{◌≡◌, refl, sym, ap, ap₂, subst, ◌∙◌}
use mathlib.Core.Bool.{Bool, true, false, cond, ◌&&◌, ◌||◌, true≢false}
use mathlib.Core.Logic.{◌⊎◌, inl, inr}
use Prim.Native.Nat.{ℕ, ◌-◌, ◌*◌, ◌^◌, ◌≤◌, ◌<◌, ◌%◌, ◌+◌}
use native.Mathlib.Nat.{zero-mul, mul-le-mul_right, le_of_mul-le-mul_right, mul-lt-mul_of_pos_right, lt_of_lt_of_le, mod-eq_of_lt}
use native.Mathlib.Omega.{arith}
use lib.Dec.{leb, ltb, T}
use lib.IntN.{ℤ, pos, neg_ℤ}
use lib.Pow.{pow_pos, pow_mono}
use lib.Signed.{◌≤ℤ◌, le_z_yes, lt_z_yes, ◌<ℤ◌, le_z, lt_z}
use borrow.Author.Tests.{le-leb, lt-leb, leb-false, leb-true, lt-ltb, ltb-true, ltb-false}
use Rattle.grid.specs.Round.{signed}
use Rattle.grid.specs.Ternary.{ternary_of}
use Rattle.grid.specs.declared.Ternary.{Ternary}
use Rattle.grid.proofs.Int.{ints, up_neg, dn_neg}
use Rattle.grid.proofs.Neighbours.{cut, pow_twice_pred}
use Rattle.patterns.specs.Kind.{high_int, Kind, integer, highest}
use Rattle.patterns.specs.Pattern.{low_bits, pattern_of}
use Rattle.patterns.proofs.AnyKind.{lowest_in, whole_pattern}
use Rattle.patterns.proofs.Integers.{low_in}
use Rattle.counts.specs.Counts.{by_pick}
use Rattle.kinds.specs.Row.{integer_of, IntegerRow}
use Rattle.counts.specs.declared.Fared.{Fared}
use Rattle.counts.specs.declared.Fared.TheVariants.{Clamped, Wrapped}
use Rattle.kinds.specs.declared.IntegerFormat.{IntegerFormat}
use Rattle.codes.specs.declared.OutOfRangeMode.{OutOfRangeMode}
use Rattle.codes.specs.declared.OutOfRangeMode.TheVariants.{Clamp, None, Wrap}
use Rattle.cast_spec.specs.Element.{in_range, nearer_end, beyond, ranged}
use Rattle.wrapping.proofs.Residues.{low_bits_mod}
use Rattle.cast_spec.specs.Fit.{fit_of}
use Rattle.integer_range.specs.Range.{refusing, clamping, end_mag, RangeApplied}
use Rattle.answers.specs.Outcome.{Fit, fit_as, stored_as}
use Rattle.answers.specs.declared.ConversionError.TheVariants.{OutOfRange}
use Rattle.std.specs.Prelude.{Err}

-- ---- in range exactly where the magnitude is at most the end's on that side
module _ (s : Bool) (n u : ℕ) (unit : 0 < u) where
  end : Bool → ℕ
  end neg = cond neg (cond s (2 ^ (n - 1)) 0) (high_int s n)

  -- the end on that side
  low_is : low_in s n u ≡ signed true (end true * u)
  unfolding end
  low_is = go s
    where
      go : (s : Bool) → low_in s n u ≡ signed true (cond s (2 ^ (n - 1)) 0 * u)
      go true = refl
      go false = sym (ap (λ (z : ℕ). neg_ℤ (pos z)) (zero-mul u))

  inside : (neg : Bool) (N : ℕ) → N ≤ end neg → (low_in s n u ≤ℤ signed neg (N * u)) × (signed neg (N * u) ≤ℤ pos (high_int s n * u))
  unfolding end
  inside false N h = (rw low_is (omega (ints, up_neg (pos (end true * u)), dn_neg (pos (end true * u)))), omega (ints, mul-le-mul_right u h))
  inside true N h = (
    rw low_is (omega (ints, mul-le-mul_right u h, up_neg (pos (end true * u)), dn_neg (pos (end true * u)), up_neg (pos (N * u)), dn_neg (pos (N * u)))),
    omega (ints, up_neg (pos (N * u)), dn_neg (pos (N * u))),
  )

  within : (neg : Bool) (N : ℕ) → low_in s n u ≤ℤ signed neg (N * u) → signed neg (N * u) ≤ℤ pos (high_int s n * u) → N ≤ end neg
  unfolding end
  within false N l h = le_of_mul-le-mul_right (omega ints) unit
  within true N l h = le_of_mul-le-mul_right (omega (ints, subst (λ (z : ℤ). z ≤ℤ signed true (N * u)) low_is l, up_neg (pos (end true * u)), dn_neg (pos (end true * u)), up_neg (pos (N * u)), dn_neg (pos (N * u)))) unit

  in_range_is : (neg : Bool) (N : ℕ) → le_z (low_in s n u) (signed neg (N * u)) && le_z (signed neg (N * u)) (pos (high_int s n * u)) ≡ leb N (end neg)
  in_range_is neg N = cut (end neg) N
      (λ (l : end neg < N). fails (le_z (low_in s n u) (signed neg (N * u))) (le_z (signed neg (N * u)) (pos (high_int s n * u))) (λ a b. omega (arith, within neg N (le_z_yes a) (le_z_yes b))) ∙ sym (lt-leb N (end neg) l))
      (λ (l : N ≤ end neg). let h = inside neg N l in holds (le_z (low_in s n u) (signed neg (N * u))) (le_z (signed neg (N * u)) (pos (high_int s n * u))) h.0.le h.1.le ∙ sym (le-leb N (end neg) l))
    where
      fails : (a b : Bool) → (T a → T b → ⊥) → a && b ≡ false
      fails true true f = absurd (f tt tt)
      fails true false f = refl
      fails false b f = refl

      holds : (a b : Bool) → T a → T b → a && b ≡ true
      holds true true a b = refl
      holds true false a b = absurd b
      holds false b a c = absurd a

  -- past the range, the nearer end is the one on that side
  nearer_is : (neg : Bool) (N : ℕ) → end neg < N → cond (lt_z (signed neg (N * u)) (low_in s n u)) (low_in s n u) (pos (high_int s n * u)) ≡ signed neg (end neg * u)
  unfolding end
  nearer_is true N h = picks (lt_z (signed true (N * u)) (low_in s n u)) lower ∙ low_is
    where
      lower : T (lt_z (signed true (N * u)) (low_in s n u))
      lower = (subst (λ (z : ℤ). signed true (N * u) <ℤ z) (sym low_is) (omega (ints, mul-lt-mul_of_pos_right h unit, up_neg (pos (end true * u)), dn_neg (pos (end true * u)), up_neg (pos (N * u)), dn_neg (pos (N * u))))).lt

      picks : (c : Bool) → T c → cond c (low_in s n u) (pos (high_int s n * u)) ≡ low_in s n u
      picks true t = refl
      picks false t = absurd t
  nearer_is false N h = picks (lt_z (signed false (N * u)) (low_in s n u)) lt_z_yes
    where
      picks : (c : Bool) → (T c → signed false (N * u) <ℤ low_in s n u) → cond c (low_in s n u) (pos (high_int s n * u)) ≡ pos (high_int s n * u)
      picks true f = absurd (omega (ints, subst (λ (z : ℤ). signed false (N * u) <ℤ z) low_is (f tt), up_neg (pos (end true * u)), dn_neg (pos (end true * u))))
      picks false f = refl

-- ---- the range step of an integer kind: the pick of an element x, by sign and magnitude
module _ (s : Bool) (n : ℕ) (neg : Bool) (x : ℤ) (N : ℕ) where
  abbrev k : Kind
  k = integer s n

  abbrev y : ℤ
  y = signed neg (N * 2 ^ 1074)

  test_is : in_range k y ≡ leb N (end_mag k neg)
  unfolding highest end_mag end
  test_is = ap (λ (z : ℤ). le_z z y && le_z y (pos (high_int s n * 2 ^ 1074))) (lowest_in s n) ∙ in_range_is s n (2 ^ 1074) (pow_pos 1074) neg N

  nearer : end_mag k neg < N → nearer_end k y ≡ signed neg (end_mag k neg * 2 ^ 1074)
  unfolding highest end_mag end
  nearer h = ap (λ (z : ℤ). cond (lt_z y z) z (pos (high_int s n * 2 ^ 1074))) (lowest_in s n) ∙ nearer_is s n (2 ^ 1074) (pow_pos 1074) neg N h

  -- the pattern of a magnitude of that sign, and how the element fared
  abbrev stored : ℕ → Fared → Fit
  stored z f = fit_as (low_bits n (signed neg z)) f

  abbrev fared : Fared
  fared = by_pick (ternary_of x y)

  abbrev fit : OutOfRangeMode → Fit
  fit range = fit_of (ranged k range 0 neg x y)

  fits_in : (range : OutOfRangeMode) → N ≤ end_mag k neg → stored N fared ≡ fit range
  fits_in range h = sym (ap (λ (c : Bool). fit_of (cond c (stored_as (pattern_of k neg y) fared) (beyond k range 0 neg y))) (test_is ∙ le-leb N (end_mag k neg) h) ∙ ap (λ (z : ℕ). fit_as z fared) (whole_pattern s n neg neg N))

  past : (range : OutOfRangeMode) → end_mag k neg < N → fit_of (beyond k range 0 neg y) ≡ fit range
  past range h = sym (ap (λ (c : Bool). fit_of (cond c (stored_as (pattern_of k neg y) fared) (beyond k range 0 neg y))) (test_is ∙ lt-leb N (end_mag k neg) h))

  past_none : end_mag k neg < N → Err OutOfRange ≡ fit None
  unfolding beyond
  past_none h = past None h

  past_clamp : end_mag k neg < N → stored (end_mag k neg) Clamped ≡ fit Clamp
  unfolding beyond
  past_clamp h = sym (ap (λ (z : ℤ). fit_as (pattern_of k neg z) Clamped) (nearer h) ∙ ap (λ (z : ℕ). fit_as z Clamped) (whole_pattern s n neg neg (end_mag k neg))) ∙ past Clamp h

  past_wrap : end_mag k neg < N → stored N Wrapped ≡ fit Wrap
  unfolding beyond
  past_wrap h = sym (ap (λ (z : ℕ). fit_as z Wrapped) (whole_pattern s n neg neg N)) ∙ past Wrap h

  -- each range choice, where p tells whether the magnitude is past the end
  clamp_fits : (p : Bool) → p ≡ ltb (end_mag k neg) N → stored (cond p (end_mag k neg) N) (cond p Clamped fared) ≡ fit Clamp
  clamp_fits true e = past_clamp (ltb-true (end_mag k neg) N (sym e))
  clamp_fits false e = fits_in Clamp (ltb-false (end_mag k neg) N (sym e))

  wrap_fits : (p : Bool) → p ≡ ltb (end_mag k neg) N → stored N (cond p Wrapped fared) ≡ fit Wrap
  wrap_fits true e = past_wrap (ltb-true (end_mag k neg) N (sym e))
  wrap_fits false e = fits_in Wrap (ltb-false (end_mag k neg) N (sym e))

-- ---- what a program has in hand: the magnitude modulo 2^64, and whether it reaches 2^64
end_lt : (s : Bool) (n : ℕ) (neg : Bool) → 0 < n → n ≤ 64 → end_mag (integer s n) neg < 2 ^ 64
unfolding end_mag
end_lt s n neg positive at_most = go s neg (pow_mono {j = 64} at_most) (pow_twice_pred n positive) (pow_pos (n - 1))
  where
    go : (s neg : Bool) → 2 ^ n ≤ 2 ^ 64 → 2 ^ n ≡ 2 * 2 ^ (n - 1) → 0 < 2 ^ (n - 1) → cond neg (cond s (2 ^ (n - 1)) 0) (high_int s n) < 2 ^ 64
    go true true a b c = omega arith
    go true false a b c = omega arith
    go false true a b c = omega arith
    go false false a b c = omega arith

module _ (s : Bool) (n : ℕ) (positive : 0 < n) (at_most : n ≤ 64) (neg : Bool) (N : ℕ) where
  exceeds_past : leb (2 ^ 64) N ≡ true → end_mag (integer s n) neg < N
  exceeds_past e = lt_of_lt_of_le (end_lt s n neg positive at_most) (leb-true (2 ^ 64) N e)

  within_is : leb (2 ^ 64) N ≡ false → N % 2 ^ 64 ≡ N
  within_is e = mod-eq_of_lt (leb-false (2 ^ 64) N e)

and_left : (a b : Bool) → a && b ≡ true → a ≡ true
and_left true b e = refl
and_left false b e = e

and_right : (a b : Bool) → a && b ≡ true → b ≡ true
and_right true b e = e
and_right false b e = absurd (true≢false (sym e))

and-false : (a : Bool) → a && true ≡ false → a ≡ false
and-false true e = e
and-false false e = e

-- by the target's bits and sign, and its end on that side
module _ (s : Bool) (n : ℕ) (positive : 0 < n) (at_most : n ≤ 64) (neg : Bool) (m : ℕ) (exceeds : Bool) (t : Ternary) (end : ℕ) (ends : end ≡ end_mag (integer s n) neg) where
  -- where it does not reach 2^64 or is not past the end, the magnitude is in hand
  own_magnitude : (N : ℕ) → exceeds ≡ false → m ≡ N % 2 ^ 64 → exceeds ≡ leb (2 ^ 64) N → m ≡ N
  own_magnitude N f a b = a ∙ within_is s n positive at_most neg N (sym b ∙ f)

  past_told : (N : ℕ) → m ≡ N % 2 ^ 64 → exceeds ≡ leb (2 ^ 64) N → exceeds || ltb end m ≡ ltb (end_mag (integer s n) neg) N
  past_told N a b = go exceeds refl
    where
      go : (c : Bool) → exceeds ≡ c → c || ltb end m ≡ ltb (end_mag (integer s n) neg) N
      go true f = sym (lt-ltb (end_mag (integer s n) neg) N (exceeds_past s n positive at_most neg N (sym b ∙ f)))
      go false f = ap₂ ltb ends (own_magnitude N f a b)

  in_hand : (N : ℕ) → m ≡ N % 2 ^ 64 → exceeds ≡ leb (2 ^ 64) N → exceeds || ltb end m ≡ false → m ≡ N
  in_hand N a b h = own_magnitude N (left_false exceeds (ltb end m) h) a b
    where
      left_false : (c d : Bool) → c || d ≡ false → c ≡ false
      left_false true d e = e
      left_false false d e = refl

  -- whether it is past the end
  abbrev pub out : Bool
  out = exceeds || ltb end m

  pub refused_past : (range : OutOfRangeMode) → out && refusing range ≡ true → RangeApplied neg m exceeds t (integer s n) range (Err OutOfRange)
  refused_past None h = record { fit = λ N x a b e. past_none s n neg x N (ltb-true _ _ (sym (past_told N a b) ∙ and_left out true h)) }
  refused_past Clamp h = absurd (true≢false (sym (and_right out false h)))
  refused_past Wrap h = absurd (true≢false (sym (and_right out false h)))

  -- a magnitude that is past the end is clamped or wrapped, another one is stored
  abbrev pub kept : OutOfRangeMode → ℕ
  kept range = cond (out && clamping range) end m

  abbrev pub told : OutOfRangeMode → Fared
  told range = cond out (cond (clamping range) Clamped Wrapped) (by_pick t)

  pub stored_kept : (range : OutOfRangeMode) → out && refusing range ≡ false → (r : ℕ) (f : Fared) → r ≡ low_bits n (signed neg (kept range)) → f ≡ told range → RangeApplied neg m exceeds t (integer s n) range (fit_as r f)
  stored_kept None h r f is g =
      let q = and-false out h in record {
        fit = λ N x a b e. ap₂ fit_as (is ∙ ap (λ (z : ℕ). low_bits n (signed neg z)) (ap (λ (p : Bool). cond (p && false) end m) q ∙ in_hand N a b q)) (g ∙ ap₂ (λ (p : Bool) (u : Ternary). cond p Wrapped (by_pick u)) q e) ∙ fits_in s n neg x N None (ltb-false _ _ (sym (past_told N a b) ∙ q));
      }
  stored_kept Clamp h r f is g = record {
    fit = λ N x a b e. ap₂ fit_as (is ∙ ap (λ (z : ℕ). low_bits n (signed neg z)) (ends_at N out (in_hand N a b))) (g ∙ ap (λ (u : Ternary). cond out Clamped (by_pick u)) e) ∙ clamp_fits s n neg x N out (past_told N a b);
  }
    where
      ends_at : (N : ℕ) (p : Bool) → (p ≡ false → m ≡ N) → cond (p && true) end m ≡ cond p (end_mag (integer s n) neg) N
      ends_at N true f = ends
      ends_at N false f = f refl
  stored_kept Wrap h r f is g = record {
    fit = λ N x a b e. ap₂ fit_as (is ∙ ap (λ (z : ℕ). low_bits n (signed neg z)) (own out ∙ a) ∙ low_bits_mod n neg N at_most) (g ∙ ap (λ (u : Ternary). cond out Wrapped (by_pick u)) e) ∙ wrap_fits s n neg x N out (past_told N a b);
  }
    where
      own : (p : Bool) → cond (p && false) end m ≡ m
      own true = refl
      own false = refl

-- ---- the ends by the row
module _ (f : IntegerFormat) (row : IntegerRow f) where
  -- the highest of a signed kind is one less than the lowest in size
  raised : f.signed ≡ true → f.highest + 1 ≡ 2 ^ (f.bits - 1)
  raised t = ap (λ (z : ℕ). z + 1) (row.high ∙ ap (λ (c : Bool). high_int c f.bits) t) ∙ omega (arith, pow_pos (f.bits - 1))

  pub end_is : (neg : Bool) (low r : ℕ) → ((f.signed ≡ true) × (low ≡ f.highest + 1)) ⊎ ((f.signed ≡ false) × (low ≡ 0)) → r ≡ cond neg low f.highest → r ≡ end_mag (integer_of f) neg
  unfolding end_mag
  end_is false low r w e = e ∙ row.high
  end_is true low r (inl w) e = e ∙ w.1 ∙ raised w.0 ∙ ap (λ (t : Bool). cond t (2 ^ (f.bits - 1)) 0) (sym w.0)
  end_is true low r (inr w) e = e ∙ w.1 ∙ ap (λ (t : Bool). cond t (2 ^ (f.bits - 1)) 0) (sym w.0)

  pub raised_fits : f.signed ≡ true → f.highest + 1 < 2 ^ 64
  raised_fits t = omega (arith, raised t, pow_mono {i = f.bits - 1} {j = 63} (omega (arith, row.at_most_64)))

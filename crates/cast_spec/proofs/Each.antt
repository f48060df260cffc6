-- What is said of each element, from the answer and the place that its outcome gives it.
use mathlib.Core.Path.{◌≡◌, refl, sym, ap, subst, ◌∙◌}
use mathlib.Core.Bool.{Bool, true, false, cond}
use Prim.Native.Nat.{ℕ, ◌^◌, ◌<◌}
use lib.Dec.{T}
use lib.IntN.{ℤ, pos, nat_abs}
use lib.Signed.{◌≤ℤ◌, ◌<ℤ◌, lt_z, lt_z_yes, ≤ℤ_refl}
use Rattle.grid.specs.Grid.{whole, OnGrid}
use Rattle.grid.specs.Round.{pick, signed}
use Rattle.grid.proofs.Int.{up, dn, ints, up_neg, dn_neg}
use Rattle.grid.proofs.Picked.{picked}
use Rattle.patterns.specs.Kind.{Kind, integer, binary, grid_of, bits, lowest, highest, InRange, WellFormed}
use Rattle.patterns.specs.Value.{Value, inf, num, negative, value_of}
use Rattle.grid.specs.Ternary.{ternary_of}
use Rattle.counts.specs.Counts.{by_pick}
use Rattle.codes.specs.declared.OutOfRangeMode.{OutOfRangeMode}
use Rattle.codes.specs.declared.OutOfRangeMode.TheVariants.{None, Clamp, Wrap}
use Rattle.patterns.specs.Pattern.{pattern_of, as_f64}
use Rattle.cast_spec.specs.Element.{nearer_end, beyond}
use Rattle.cast_spec.specs.Chunk.{Call, outcome_at}
use Rattle.cast_spec.specs.Demand3.{Taken, RefusedBy, Kept, Congruent, Handled, Rounded}
use Rattle.patterns.proofs.AnyKind.{sound, sign_of, pick_sign, int_back, int_fits, pattern_back, pattern_fits, lowest_in, unit_pos, multiple, ends_meet, high_on, low_on}
use Rattle.cast_spec.proofs.Steps.{outcome_is, by_range}
use Rattle.patterns.proofs.Floats.{inf_back, inf_fits}
use Rattle.patterns.proofs.Integers.{value_in_range, value_in, wrapped}
use Rattle.patterns.proofs.Integers as integers
use Rattle.patterns.proofs.Floats as floats
use Rattle.answers.specs.Outcome.{Answer, Outcome, stored_as}
use Rattle.answers.specs.declared.ElementRefusal.TheVariants.{FloatOutOfRange, NanOrInf, OutOfRange}
use Rattle.std.specs.Prelude.{Err, Ok}

-- the answer r, and the place of the position i, which holds v, are as the outcome says
abbrev pub Served : Kind → Answer → Value → ℕ → Outcome → Type 0
Served k r v i (Ok s) = Kept r i × (s.pattern < 2 ^ bits k → v ≡ value_of k s.pattern)
Served k r v i (Err (NanOrInf x)) = RefusedBy 5 r i
Served k r v i (Err (OutOfRange x lo hi)) = RefusedBy 6 r i
Served k r v i (Err (FloatOutOfRange x lo hi)) = RefusedBy 7 r i

nearer_low : (k : Kind) (y : ℤ) → y <ℤ lowest k → nearer_end k y ≡ lowest k
nearer_low k y h = go (lt_z y (lowest k)) h.lt
  where
    go : (c : Bool) → T c → cond c (lowest k) (highest k) ≡ lowest k
    go true t = refl
    go false t = absurd t

nearer_high : (k : Kind) (y : ℤ) → highest k <ℤ y → nearer_end k y ≡ highest k
nearer_high k y h = go (lt_z y (lowest k)) lt_z_yes
  where
    go : (c : Bool) → (T c → y <ℤ lowest k) → cond c (lowest k) (highest k) ≡ highest k
    go true f = let l = f tt in absurd (omega (ints, ends_meet k))
    go false f = refl

-- ---- the sign of an element past a float's range
is_negative : (neg : Bool) (x : ℤ) (m : ℕ) → x ≡ signed neg m → x <ℤ pos 0 → neg ≡ true
is_negative true x m e h = refl
is_negative false x m e h = absurd (omega (ints, ap up e, ap dn e))

is_positive : (neg : Bool) (x : ℤ) (m : ℕ) → x ≡ signed neg m → pos 0 <ℤ x → neg ≡ false
is_positive true x m e h = absurd (omega (ints, ap up e, ap dn e, up_neg (pos m), dn_neg (pos m)))
is_positive false x m e h = refl

congruent : (s : Bool) (n : ℕ) (neg : Bool) (v : Value) (y : ℤ) → 0 < n → OnGrid (whole 1074) y → v ≡ value_of (integer s n) (pattern_of (integer s n) neg y) → Congruent (integer s n) v y
unfolding value_of pattern_of highest
congruent s n neg v y ok on e =
    let m = multiple y on in
    let b = pattern_of (integer s n) neg y in
    let h = integers.value_in_range s n (2 ^ 1074) ok unit_pos b (int_fits s n neg y ok) in
    let t = integers.wrapped s n (2 ^ 1074) ok unit_pos y m.0 m.1 in record {
      z = integers.value_in s n (2 ^ 1074) b;
      value = e;
      in_range = (subst (λ (z : ℤ). z ≤ℤ integers.value_in s n (2 ^ 1074) b) (sym (lowest_in s n)) h.0, h.1);
      turns = t.0;
      apart = t.1;
    }

-- ---- a pick past the range, under settings that do not wrap to a float
abbrev pub WrapsFloat : Kind → OutOfRangeMode → Type 0
WrapsFloat (integer s n) m = ⊥
WrapsFloat (binary p w s) None = ⊥
WrapsFloat (binary p w s) Clamp = ⊥
WrapsFloat (binary p w s) Wrap = Unit {0}

handled : (k : Kind) (m : OutOfRangeMode) (r : Answer) (v : Value) (i u : ℕ) (neg : Bool) (x y : ℤ) → WellFormed k → (WrapsFloat k m → ⊥) → OnGrid (grid_of k) y → x ≡ signed neg (nat_abs x)
    → Served k r v i (beyond k m u neg y) → Handled k m r v i x y
unfolding beyond
handled (integer s n) None r v i u neg x y ok free on e f = f
handled (integer s n) Clamp r v i u neg x y ok free on e f = (
  f.0,
  λ (h : y <ℤ lowest (integer s n)). at (lowest (integer s n)) (nearer_low (integer s n) y h) (low_on s n) (≤ℤ_refl (lowest (integer s n)), ends_meet (integer s n)),
  λ (h : highest (integer s n) <ℤ y). at (highest (integer s n)) (nearer_high (integer s n) y h) (high_on s n) (ends_meet (integer s n), ≤ℤ_refl (highest (integer s n))),
)
  where
    at : (z : ℤ) → nearer_end (integer s n) y ≡ z → OnGrid (whole 1074) z → InRange (integer s n) z → v ≡ num z
    at z c on h = f.1 (int_fits s n neg (nearer_end (integer s n) y) ok) ∙ ap (λ (a : ℤ). value_of (integer s n) (pattern_of (integer s n) neg a)) c ∙ int_back s n neg z ok on h
handled (integer s n) Wrap r v i u neg x y ok free on e f = (f.0, congruent s n neg v y ok on (f.1 (int_fits s n neg y ok)))
handled (binary p w s) None r v i u neg x y ok free on e f = f
handled (binary p w s) Clamp r v i u neg x y ok free on e f = (
  f.0,
  λ (h : x <ℤ pos 0). at ∙ ap inf (is_negative neg x (nat_abs x) e h),
  λ (h : pos 0 <ℤ x). at ∙ ap inf (is_positive neg x (nat_abs x) e h),
)
  where
    at : v ≡ inf neg
    at = f.1 (floats.inf_fits p w s ok.0 ok.1 neg) ∙ floats.inf_back p w s ok.0 ok.1 neg
handled (binary p w s) Wrap r v i u neg x y ok free on e f = absurd (free tt)

-- ---- the law
pub each_of : (c : Call) (r : Answer) (v : Value) (i : ℕ) (x : ℤ) → WellFormed c.settings.to → (WrapsFloat c.settings.to c.settings.range → ⊥) → Taken c i x → Served c.settings.to r v i (outcome_at c i) → Rounded c.settings r v i x
unfolding outcome_at
each_of c r v i x ok free t f =
    let S = c.settings in
    let k = S.to in
    let b = c.element i in
    let neg = negative S.from b in
    let y = pick (grid_of k) S.rule x in
    let P = picked (grid_of k) (sound k ok) S.rule x in
    let e = sign_of S.from b x t.finite in
    let g = subst (λ (o : Outcome). Served k r v i o) (outcome_is S b x t.finite t.unmatched) f in
    let h = by_range (Served k r v i) k y (stored_as (pattern_of k neg y) (by_pick (ternary_of x y))) (beyond k S.range (as_f64 S.from b) neg y) g in record {
      y = y;
      pick = P;
      result = λ (a : InRange k y). ((h.0 a).0, (h.0 a).1 (pattern_fits k neg y ok P.on a) ∙ pattern_back k neg y ok P.on a (pick_sign (grid_of k) (sound k ok) S.rule neg x e));
      past = λ n. handled k S.range r v i (as_f64 S.from b) neg x y ok free P.on e (h.1 n);
    }

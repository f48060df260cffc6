-- The order of results follows from what is said of each element alone.
use mathlib.Core.Path.{◌≡◌, sym, ap, subst}
use mathlib.Core.Bool.{true, false}
use Prim.Native.Nat.{ℕ}
use lib.Dec.{T}
use lib.IntN.{ℤ, pos}
use lib.Signed.{◌≤ℤ◌, ◌<ℤ◌, ≤ℤ_refl}
use Rattle.grid.proofs.Int.{up, dn, ints, split, →eq}
use Rattle.grid.proofs.Order.{zero_on, monotone, unique}
use Rattle.patterns.specs.Kind.{Kind, integer, binary, grid_of, lowest, highest, InRange}
use Rattle.patterns.specs.Value.{Value, inf, num}
use Rattle.codes.specs.declared.OutOfRangeMode.{OutOfRangeMode}
use Rattle.codes.specs.declared.OutOfRangeMode.TheVariants.{None, Clamp, Wrap}
use Rattle.cast_spec.specs.Element.{Settings}
use Rattle.cast_spec.specs.Chunk.{Call}
use Rattle.cast_spec.specs.Demand3.{Taken, Pick, RefusedBy, Kept, Handled, Rounded, Wraps, Wrapped, ◌≤ᵉ◌, Compared}
use Rattle.answers.specs.Answer.{names_position}
use Rattle.patterns.proofs.AnyKind.{high_zero, low_zero}
use Rattle.answers.specs.Outcome.{Answer}

-- ---- where a result that is neither refused nor wrapped lies
abbrev low_end : Kind → Value
low_end (integer s n) = num (lowest (integer s n))
low_end (binary p w s) = inf true

abbrev high_end : Kind → Value
high_end (integer s n) = num (highest (integer s n))
high_end (binary p w s) = inf false

data Landing (k : Kind) (y : ℤ) (v : Value) : Type 0 where
  low : y <ℤ lowest k → v ≡ low_end k → Landing k y v
  mid : lowest k ≤ℤ y → y ≤ℤ highest k → v ≡ num y → Landing k y v
  high : highest k <ℤ y → v ≡ high_end k → Landing k y v

-- a pick on one side of zero has its element on that side
pub below_zero : (S : Settings) (x y : ℤ) → Pick S x y → y <ℤ pos 0 → x <ℤ pos 0
below_zero S x y P h = split x (pos 0) (λ l. l) (λ (l : pos 0 ≤ℤ x). split (pos 0) x
    (λ (m : pos 0 <ℤ x). absurd (P.none_below (pos 0) (zero_on (grid_of S.to)) h m))
    (λ (m : x ≤ℤ pos 0).
    let e : x ≡ pos 0 = →eq x (pos 0) (omega ints) in
    let f : y ≡ x = P.itself (rw e (zero_on (grid_of S.to))) in
    absurd (omega (ints, ap up f, ap dn f))))

pub above_zero : (S : Settings) (x y : ℤ) → Pick S x y → pos 0 <ℤ y → pos 0 <ℤ x
above_zero S x y P h = split (pos 0) x (λ l. l) (λ (l : x ≤ℤ pos 0). split x (pos 0)
    (λ (m : x <ℤ pos 0). absurd (P.none_above (pos 0) (zero_on (grid_of S.to)) m h))
    (λ (m : pos 0 ≤ℤ x).
    let e : x ≡ pos 0 = →eq x (pos 0) (omega ints) in
    let f : y ≡ x = P.itself (rw e (zero_on (grid_of S.to))) in
    absurd (omega (ints, ap up f, ap dn f))))

pub refused : (r : Answer) (i k : ℕ) → T (names_position k) → RefusedBy k r i → Kept r i → ⊥
refused r i k h f kept = kept (subst (λ (n : ℕ). T (names_position n)) (sym f.0) h) f.1

-- a pick past the range, not refused and not wrapped, was clamped
clamped : (S : Settings) (k : Kind) (m : OutOfRangeMode) (r : Answer) (v : Value) (i : ℕ) (x y : ℤ) → Kept r i → (Wraps k m → ⊥) → Handled k m r v i x y
    → (y <ℤ lowest k → (y <ℤ pos 0 → x <ℤ pos 0) → v ≡ low_end k) × (highest k <ℤ y → (pos 0 <ℤ y → pos 0 <ℤ x) → v ≡ high_end k)
clamped S (integer s n) None r v i x y kept w h = absurd (refused r i 6 tt h kept)
clamped S (integer s n) Clamp r v i x y kept w h = (λ l _. h.1 l, λ l _. h.2 l)
clamped S (integer s n) Wrap r v i x y kept w h = absurd (w tt)
clamped S (binary p w s) None r v i x y kept n h = absurd (refused r i 7 tt h kept)
clamped S (binary p w s) Clamp r v i x y kept n h = (
  λ (l : y <ℤ lowest (binary p w s)) f. h.1 (f (omega (ints, low_zero (binary p w s)))),
  λ (l : highest (binary p w s) <ℤ y) f. h.2 (f (omega (ints, high_zero (binary p w s)))),
)
clamped S (binary p w s) Wrap r v i x y kept n h = absurd h

landing : (S : Settings) (r : Answer) (v : Value) (i : ℕ) (x : ℤ) (R : Rounded S r v i x) → Kept r i → (Wrapped S x → ⊥) → Landing S.to R.y v
landing S r v i x R kept free = split y (lowest S.to)
    (λ (l : y <ℤ lowest S.to). low l ((at_ends (λ (h : InRange S.to y). omega (ints, h.0))).0 l (below_zero S x y R.pick)))
    (λ (l : lowest S.to ≤ℤ y). split (highest S.to) y
    (λ (m : highest S.to <ℤ y). high m ((at_ends (λ (h : InRange S.to y). omega (ints, h.1))).1 m (above_zero S x y R.pick)))
    (λ (m : y ≤ℤ highest S.to). mid l m (R.result (l, m)).1))
  where
    y : ℤ
    y = R.y

    at_ends : (InRange S.to y → ⊥) → (y <ℤ lowest S.to → (y <ℤ pos 0 → x <ℤ pos 0) → v ≡ low_end S.to) × (highest S.to <ℤ y → (pos 0 <ℤ y → pos 0 <ℤ x) → v ≡ high_end S.to)
    at_ends past = clamped S S.to S.range r v i x y kept
        (λ wr. free (record { wraps = wr; past = λ z P h. past (subst (λ (a : ℤ). InRange S.to a) (unique (grid_of S.to) S.rule P R.pick) h) }))
        (R.past past)

-- ---- the ends in the order of results
low_low : (k : Kind) → low_end k ≤ᵉ low_end k
low_low (integer s n) = ≤ℤ_refl (lowest (integer s n))
low_low (binary p w s) = tt

high_high : (k : Kind) → high_end k ≤ᵉ high_end k
high_high (integer s n) = ≤ℤ_refl (highest (integer s n))
high_high (binary p w s) = tt

low_high : (k : Kind) → low_end k ≤ᵉ high_end k
low_high (integer s n) = omega (ints, low_zero (integer s n), high_zero (integer s n))
low_high (binary p w s) = tt

low_mid : (k : Kind) (y : ℤ) → lowest k ≤ℤ y → low_end k ≤ᵉ num y
low_mid (integer s n) y h = h
low_mid (binary p w s) y h = tt

mid_high : (k : Kind) (y : ℤ) → y ≤ℤ highest k → num y ≤ᵉ high_end k
mid_high (integer s n) y h = h
mid_high (binary p w s) y h = tt

ordered : (k : Kind) (y y' : ℤ) (v v' : Value) → y ≤ℤ y' → Landing k y v → Landing k y' v' → v ≤ᵉ v'
ordered k y y' v v' h (low a e) (low b f) = rw (e, f) (low_low k)
ordered k y y' v v' h (low a e) (mid b c f) = rw (e, f) (low_mid k y' b)
ordered k y y' v v' h (low a e) (high b f) = rw (e, f) (low_high k)
ordered k y y' v v' h (mid a d e) (low b f) = absurd (omega ints)
ordered k y y' v v' h (mid a d e) (mid b c f) = rw (e, f) h
ordered k y y' v v' h (mid a d e) (high b f) = rw (e, f) (mid_high k y d)
ordered k y y' v v' h (high a e) (low b f) = absurd (omega (ints, low_zero k, high_zero k))
ordered k y y' v v' h (high a e) (mid b c f) = absurd (omega ints)
ordered k y y' v v' h (high a e) (high b f) = rw (e, f) (high_high k)

-- ---- the law
pub order_of : (c : Call) (r : Answer) (res : ℕ → Value) → ((i : ℕ) (x : ℤ) → Taken c i x → Rounded c.settings r (res i) i x)
    → (i j : ℕ) (x x' : ℤ) → Compared c r i x → Compared c r j x' → x ≤ℤ x' → res i ≤ᵉ res j
order_of c r res each i j x x' a b h =
    let S = c.settings in
    let A = each i x a.0 in
    let B = each j x' b.0 in
    ordered S.to A.y B.y (res i) (res j) (monotone (grid_of S.to) S.rule A.pick B.pick h)
    (landing S r (res i) i x A a.1 a.2) (landing S r (res j) j x' B b.1 b.2)

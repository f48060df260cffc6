-- A tally holds each count at its place, and one more there is one more of that class.
use mathlib.Core.Path.{◌≡◌, refl, sym, ap, subst}
use mathlib.Core.List.{List, [], ◌∷◌}
use Prim.Native.Nat.{ℕ, suc, ◌+◌, ◌^◌, ◌<◌}
use native.Mathlib.Omega.{arith}
use lib.ListN.{length, get_or}
use Rattle.counts.specs.Counts.{place_of, count_of}
use Rattle.counts.specs.OneMore.{counted}
use Rattle.tallies.specs.Tally.{counts_in, one_more_at, CountableAt}
use Rattle.counts.specs.declared.Counts.{Counts}
use Rattle.counts.specs.declared.Fared.{Fared}
use Rattle.counts.specs.declared.Fared.TheVariants.{Mapped, Exact, Rounded, Clamped, Wrapped}

next : (n : ℕ) → n + 1 ≡ suc n
next n = omega arith

pub place_lt : (f : Fared) → place_of f < 6
place_lt Mapped = omega arith
place_lt Exact = omega arith
place_lt Rounded = omega arith
place_lt Clamped = omega arith
place_lt Wrapped = omega arith

count_at : (f : Fared) (t : List ℕ) → get_or t (place_of f) 0 ≡ count_of f (counts_in t)
count_at Mapped t = refl
count_at Exact t = refl
count_at Rounded t = refl
count_at Clamped t = refl
count_at Wrapped t = refl

pub one_more : (f : Fared) (t : List ℕ) → length t ≡ 6 → counts_in (one_more_at (place_of f) t) ≡ counted f (counts_in t)
one_more f [] h = absurd (omega arith)
one_more f (a ∷ []) h = absurd (omega arith)
one_more f (a ∷ b ∷ []) h = absurd (omega arith)
one_more f (a ∷ b ∷ c ∷ []) h = absurd (omega arith)
one_more f (a ∷ b ∷ c ∷ d ∷ []) h = absurd (omega arith)
one_more Mapped (a ∷ b ∷ c ∷ d ∷ e ∷ t) h = ap {B = Counts} (λ (n : ℕ). record { mapped = n; exact = b; rounded = c; clamped = d; wrapped = e }) (next a)
one_more Exact (a ∷ b ∷ c ∷ d ∷ e ∷ t) h = ap {B = Counts} (λ (n : ℕ). record { mapped = a; exact = n; rounded = c; clamped = d; wrapped = e }) (next b)
one_more Rounded (a ∷ b ∷ c ∷ d ∷ e ∷ t) h = ap {B = Counts} (λ (n : ℕ). record { mapped = a; exact = b; rounded = n; clamped = d; wrapped = e }) (next c)
one_more Clamped (a ∷ b ∷ c ∷ d ∷ e ∷ t) h = ap {B = Counts} (λ (n : ℕ). record { mapped = a; exact = b; rounded = c; clamped = n; wrapped = e }) (next d)
one_more Wrapped (a ∷ b ∷ c ∷ d ∷ e ∷ t) h = ap {B = Counts} (λ (n : ℕ). record { mapped = a; exact = b; rounded = c; clamped = d; wrapped = n }) (next e)

-- there is room at a class's place where its count has room
pub countable_at : (f : Fared) (t : List ℕ) → length t ≡ 6 → count_of f (counts_in t) + 1 < 2 ^ 64 → CountableAt (place_of f) t
countable_at f t six room = record { six = six; place = place_lt f; room = subst (λ (n : ℕ). n + 1 < 2 ^ 64) (sym (count_at f t)) room }

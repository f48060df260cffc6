-- To be believed: how the elements fared, over a call c, its answer r and its counts t: which elements each count is of.
use Rattle.std.specs.Prelude.{◌≡◌, ◌≢◌, ◌⊎◌, true, ℕ, zero, suc, ◌+◌, ℤ}
use mathlib.Core.List.{Memᴰ}
use Rattle.grid.specs.Pick.{IsPick}
use Rattle.patterns.specs.Kind.{grid_of, InRange}
use Rattle.patterns.specs.Value.{Value, num, value_of}
use Rattle.counts.specs.Counts.{count_of}
use Rattle.counts.specs.declared.Counts.{Counts}
use Rattle.counts.specs.declared.Fared.{Fared}
use Rattle.counts.specs.declared.Fared.TheVariants.{Mapped, Exact, Rounded, Clamped, Wrapped}
use Rattle.codes.specs.declared.OutOfRangeMode.TheVariants.{Clamp, Wrap}
use Rattle.cast_spec.specs.Element.{Entry, matches}
use Rattle.cast_spec.specs.Chunk.{Call, converted_of}
use Rattle.answers.specs.Outcome.{Answer}

module _ (c : Call) where
  abbrev pub value_at : ℕ → Value
  value_at i = value_of c.settings.from (c.element i)

  -- an entry matches the element at i
  pub record Matched (i : ℕ) : Type 0 where
    pub entry : Entry
    pub listed : Memᴰ entry c.settings.entries
    pub matching : matches (value_at i) (value_of c.settings.from entry.key) ≡ true

  -- "a NaN or infinity carried to a float": to an integer kind it is not converted
  pub record Carried (i : ℕ) : Type 0 where
    pub unmatched : Matched i → ⊥
    pub not_finite : (x : ℤ) → value_at i ≡ num x → ⊥

  -- an unmatched number x, of which its pick y is so
  pub record Picks (i : ℕ) (So : ℤ → ℤ → Type 0) : Type 0 where
    pub unmatched : Matched i → ⊥
    pub x : ℤ
    pub y : ℤ
    pub number : value_at i ≡ num x
    pub pick : IsPick (grid_of c.settings.to) c.settings.rule x y
    pub so : So x y

  -- "A converted, unmatched element whose pick lies past the range counts as clamped or wrapped only, any other as exact or rounded by its pick;
  -- a NaN or infinity carried to a float is exact."
  abbrev pub Fares : Fared → ℕ → Type 0
  Fares Mapped i = Matched i
  Fares Exact i = Carried i ⊎ Picks i (λ (x y : ℤ). InRange c.settings.to y × (y ≡ x))
  Fares Rounded i = Picks i (λ (x y : ℤ). InRange c.settings.to y × (y ≢ x))
  Fares Clamped i = Picks i (λ (x y : ℤ). (InRange c.settings.to y → ⊥) × (c.settings.range ≡ Clamp))
  Fares Wrapped i = Picks i (λ (x y : ℤ). (InRange c.settings.to y → ⊥) × (c.settings.range ≡ Wrap))

-- k of the positions below n are so
abbrev pub HowMany : (ℕ → Type 0) → ℕ → ℕ → Type 0
HowMany P zero k = k ≡ 0
HowMany P (suc n) zero = (P n → ⊥) × HowMany P n zero
HowMany P (suc n) (suc k) = (P n × HowMany P n k) ⊎ ((P n → ⊥) × HowMany P n (suc k))

pub record Counted (c : Call) (r : Answer) (t : Counts) : Type 0 where
  pub each : (f : Fared) → HowMany (Fares c f) (converted_of c.count r) (count_of f t)
  -- "Their sum is the number of elements converted, also when a refusal ends the chunk."
  pub sum : t.mapped + t.exact + t.rounded + t.clamped + t.wrapped ≡ converted_of c.count r

-- To be believed: the chunk call over its inputs alone: the checks, the answer, and every byte of the destination.
use Rattle.std.specs.Prelude.{Bool, true, false, ◌&&◌, not, cond, List, [], ◌∷◌, ◌++◌, ℕ, zero, suc, ◌/◌, ◌%◌, ◌<◌, T, eqb, ltb, length, drop, Ok, Err}
use Rattle.bytes_le.specs.Bytes.{to_le, pattern_at}
use Rattle.patterns.specs.Kind.{width}
use Rattle.patterns.specs.Value.{Value, value_of}
use Rattle.kinds.specs.Table.{kind_of}
use Rattle.codes.specs.Codes.{rounding_of, range_of, wrap_barred}
use Rattle.counts.specs.Counts.{place_of}
use Rattle.counts.specs.declared.Counts.{Counts}
use Rattle.counts.specs.declared.Fared.{Fared}
use Rattle.counts.specs.declared.Fared.TheVariants.{Mapped, Exact, Rounded, Clamped, Wrapped}
use Rattle.answers.specs.declared.ElementRefusal.TheVariants.{NanOrInf, OutOfRange, FloatOutOfRange}
use Rattle.answers.specs.declared.Refusal.{Refusal}
use Rattle.answers.specs.declared.Refusal.TheVariants as A
use Rattle.answers.specs.Outcome.{Outcome, Answer}
use Rattle.cast_spec.specs.Element.{Entry, Settings, outcome_of}

-- "Source, destination, map keys (source kind) and map targets (target kind) are bytes", and four codes
pub record Inputs : Type 0 where
  pub source : List ℕ
  pub destination : List ℕ
  pub keys : List ℕ
  pub targets : List ℕ
  pub from : ℕ
  pub to : ℕ
  pub rounding : ℕ
  pub range : ℕ

abbrev pub inputs : List ℕ → List ℕ → List ℕ → List ℕ → ℕ → ℕ → ℕ → ℕ → Inputs
inputs s d ks ts f t o g = record { source = s; destination = d; keys = ks; targets = ts; from = f; to = t; rounding = o; range = g }

-- n entries from the position j on, keys of sw bytes and targets of dw
abbrev pub entries_from : ℕ → ℕ → List ℕ → List ℕ → ℕ → ℕ → List Entry
entries_from sw dw ks ts j zero = []
entries_from sw dw ks ts j (suc n) = record { key = pattern_at sw ks j; target = pattern_at dw ts j } ∷ entries_from sw dw ks ts (suc j) n

module _ (I : Inputs) where
  -- the widths of a source and of a destination element
  abbrev pub sw : ℕ
  sw = width (kind_of I.from)

  abbrev pub dw : ℕ
  dw = width (kind_of I.to)

  unfoldable pub settings_of : Settings
  settings_of = record {
    from = kind_of I.from;
    to = kind_of I.to;
    rule = rounding_of I.rounding;
    range = range_of I.range;
    entries = entries_from sw dw I.keys I.targets 0 (length I.keys / sw);
  }

  -- ---- what the refusals 1 to 4 and 8 test

  -- not 1: "a kind, rounding or range code not listed"
  abbrev pub codes_listed : Bool
  codes_listed = ltb I.from 11 && ltb I.to 11 && ltb I.rounding 5 && ltb I.range 3

  -- not 8: "wrap with target kind f32 or f64", and to f16
  abbrev pub wrap_permitted : Bool
  wrap_permitted = not (wrap_barred I.to I.range)

  -- not 2: "map key bytes or target bytes not whole elements, or their counts differ"
  abbrev pub map_whole : Bool
  map_whole = eqb (length I.keys % sw) 0 && eqb (length I.targets % dw) 0 && eqb (length I.keys / sw) (length I.targets / dw)

  -- not 3: "source or destination bytes not whole elements"
  abbrev pub bytes_whole : Bool
  bytes_whole = eqb (length I.source % sw) 0 && eqb (length I.destination % dw) 0

  -- not 4: "element counts differ"
  abbrev pub counts_meet : Bool
  counts_meet = eqb (length I.source / sw) (length I.destination / dw)

-- ---- the checks before the elements: each with whether it is passed, and the refusal where it is not
pub record Check : Type 0 where
  pub passes : Bool
  pub refusal : Refusal

-- "Numbers 1 to 4 are tested in that order"; 8 "directly after 1"
abbrev pub checks_of : Inputs → List Check
checks_of I =
    record { passes = codes_listed I; refusal = A.UnknownCode }
    ∷ record { passes = wrap_permitted I; refusal = A.BarredWrap }
    ∷ record { passes = map_whole I; refusal = A.BrokenMap }
    ∷ record { passes = bytes_whole I; refusal = A.BrokenElement }
    ∷ record { passes = counts_meet I; refusal = A.LengthMismatch (length I.source / sw I) (length I.destination / dw I) }
    ∷ []

abbrev pub all_pass : List Check → Bool
all_pass [] = true
all_pass (c ∷ cs) = c.passes && all_pass cs

-- the refusal of the first check that is not passed, or the elements' answer x
abbrev pub tested : List Check → Answer → Answer
tested [] x = x
tested (c ∷ cs) x = cond c.passes (tested cs x) (Err c.refusal)

-- ---- a call that converts patterns in order, whatever its route: over bytes, or over typed slices
pub record Call : Type 0 where
  pub settings : Settings
  pub passed : Bool
  pub count : ℕ
  pub element : ℕ → ℕ

unfoldable pub call_of : Inputs → Call
call_of I = record {
  settings = settings_of I;
  passed = all_pass (checks_of I);
  count = length I.source / sw I;
  element = pattern_at (sw I) I.source;
}

-- what the element at i comes to
unfoldable pub outcome_at : Call → ℕ → Outcome
outcome_at c i = outcome_of c.settings (c.element i)

abbrev pub Refuses : Outcome → Type 0
Refuses (Ok s) = ⊥
Refuses (Err (NanOrInf v)) = Unit {0}
Refuses (Err (OutOfRange v lo hi)) = Unit {0}
Refuses (Err (FloatOutOfRange v lo hi)) = Unit {0}

-- "The call reaches an element when the input passes every check that comes before the elements, and the element steps above refuse no element
-- before it in the order of conversion; what the program answers plays no part in this."
pub record Reached (c : Call) (i : ℕ) : Type 0 where
  pub passed : T c.passed
  pub within : i < c.count
  pub before : (k : ℕ) → k < i → Refuses (outcome_at c k) → ⊥

-- ---- the answer: the checks, "then elements by position"

-- a refusal at i, or the answer of the rest
abbrev pub answer_next : Outcome → ℕ → Answer → Answer
answer_next (Ok s) i rest = rest
answer_next (Err (NanOrInf v)) i rest = Err (A.NanOrInf i v)
answer_next (Err (OutOfRange v lo hi)) i rest = Err (A.OutOfRange i v lo hi)
answer_next (Err (FloatOutOfRange v lo hi)) i rest = Err (A.FloatOutOfRange i v lo hi)

-- of n outcomes from the position i on
abbrev pub answer_from : (ℕ → Outcome) → ℕ → ℕ → Answer
answer_from o i zero = Ok tt
answer_from o i (suc n) = answer_next (o i) i (answer_from o (suc i) n)

unfoldable pub answer_of : Inputs → Answer
answer_of I = tested (checks_of I) (answer_from (outcome_at (call_of I)) 0 (call_of I).count)

-- ---- the destination: "those before it are converted, it and all later ones untouched"

-- d is what stands from here on, and rest what then follows a stored element
abbrev pub bytes_next : Outcome → ℕ → List ℕ → List ℕ → List ℕ
bytes_next (Ok s) w d rest = to_le w s.pattern ++ rest
bytes_next (Err (NanOrInf v)) w d rest = d
bytes_next (Err (OutOfRange v lo hi)) w d rest = d
bytes_next (Err (FloatOutOfRange v lo hi)) w d rest = d

-- n elements of w bytes from the position i on, where d stands
abbrev pub bytes_from : (ℕ → Outcome) → ℕ → ℕ → ℕ → List ℕ → List ℕ
bytes_from o w i zero d = d
bytes_from o w i (suc n) d = bytes_next (o i) w d (bytes_from o w (suc i) n (drop w d))

-- "Refusals 1 to 4 leave the destination untouched"; "Like 1 to 4, number 8 leaves all the destination as it was"
unfoldable pub destination_of : Inputs → List ℕ
destination_of I = cond (call_of I).passed (bytes_from (outcome_at (call_of I)) (dw I) 0 (call_of I).count I.destination) I.destination

-- ---- the counts: "The answer gains five counts", of the elements that are converted

-- "Their sum is the number of elements converted, also when a refusal ends the chunk": of n elements all, those before the refused one, or none
abbrev pub converted_of : ℕ → Answer → ℕ
converted_of n (Ok all) = n
converted_of n (Err A.UnknownCode) = 0
converted_of n (Err A.BrokenMap) = 0
converted_of n (Err A.BrokenElement) = 0
converted_of n (Err (A.LengthMismatch s d)) = 0
converted_of n (Err (A.NanOrInf i v)) = i
converted_of n (Err (A.OutOfRange i v lo hi)) = i
converted_of n (Err (A.FloatOutOfRange i v lo hi)) = i
converted_of n (Err A.BarredWrap) = 0

-- whether an element is stored that fared as f
abbrev pub fared_as : Fared → Outcome → Bool
fared_as f (Ok s) = eqb (place_of f) (place_of s.fared)
fared_as f (Err (NanOrInf v)) = false
fared_as f (Err (OutOfRange v lo hi)) = false
fared_as f (Err (FloatOutOfRange v lo hi)) = false

-- how many are, of the positions below n
abbrev pub count_below : (ℕ → Outcome) → Fared → ℕ → ℕ
count_below o f zero = 0
count_below o f (suc n) = cond (fared_as f (o n)) (suc (count_below o f n)) (count_below o f n)

abbrev pub counts_below : (ℕ → Outcome) → ℕ → Counts
counts_below o n = record { mapped = count_below o Mapped n; exact = count_below o Exact n; rounded = count_below o Rounded n; clamped = count_below o Clamped n; wrapped = count_below o Wrapped n }

unfoldable pub counts_of : Inputs → Counts
counts_of I = counts_below (outcome_at (call_of I)) (converted_of (call_of I).count (answer_of I))

-- "the number that its place in the destination holds": of the position i of a destination d
unfoldable pub result_at : Inputs → List ℕ → ℕ → Value
result_at I d i = value_of (kind_of I.to) (pattern_at (dw I) d i)

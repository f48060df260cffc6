-- To be believed: what a NaN's own bits decide: two calls whose elements and map are one but for the patterns of NaNs.
use Rattle.std.specs.Prelude.{◌≡◌, ◌⊎◌, List, ℕ, ◌/◌, ◌<◌, length}
use Rattle.bytes_le.specs.Bytes.{pattern_at}
use Rattle.patterns.specs.Kind.{Kind, f64}
use Rattle.patterns.specs.Value.{nan, value_of}
use Rattle.kinds.specs.Table.{kind_of}
use Rattle.answers.specs.declared.Refusal.TheVariants as A
use Rattle.answers.specs.declared.Reply.{Reply}
use Rattle.cast_spec.specs.Chunk.{Inputs, inputs, sw, dw, answer_of, counts_of, destination_of}
use Rattle.answers.specs.Outcome.{Answer}
use Rattle.std.specs.Prelude.{Err}

-- two patterns of a kind stand for one element: they are equal, or each is a NaN's
abbrev pub Alike : Kind → ℕ → ℕ → Type 0
Alike k a b = (a ≡ b) ⊎ ((value_of k a ≡ nan) × (value_of k b ≡ nan))

-- two chunks of elements of w bytes, of one length, at every position
pub record AlikeBytes (k : Kind) (w : ℕ) (s t : List ℕ) : Type 0 where
  pub long : length s ≡ length t
  pub at : (i : ℕ) → i < length s / w → Alike k (pattern_at w s i) (pattern_at w t i)

-- two inputs with the same codes
pub record AlikeInputs (I J : Inputs) : Type 0 where
  pub codes : J ≡ inputs J.source J.destination J.keys J.targets I.from I.to I.rounding I.range
  pub source : AlikeBytes (kind_of I.from) (sw I) I.source J.source
  pub destination : AlikeBytes (kind_of I.to) (dw I) I.destination J.destination
  pub keys : AlikeBytes (kind_of I.from) (sw I) I.keys J.keys
  pub targets : AlikeBytes (kind_of I.to) (dw I) I.targets J.targets

-- refusal 5 at one position, of a NaN each
pub record BothNan (r a : Answer) : Type 0 where
  pub position : ℕ
  pub value : ℕ
  pub other : ℕ
  pub first : r ≡ Err (A.NanOrInf position value)
  pub second : a ≡ Err (A.NanOrInf position other)
  pub nans : (value_of f64 value ≡ nan) × (value_of f64 other ≡ nan)

abbrev pub SameAnswer : Answer → Answer → Type 0
SameAnswer r a = (r ≡ a) ⊎ BothNan r a

-- what is returned and a destination d as those of J, but for the value of a refused NaN and the patterns of NaNs in the destination
pub record SameButNans (J : Inputs) (r : Reply) (d : List ℕ) : Type 0 where
  pub answer : SameAnswer r.answer (answer_of J)
  pub counts : r.counts ≡ counts_of J
  pub destination : AlikeBytes (kind_of J.to) (dw J) d (destination_of J)

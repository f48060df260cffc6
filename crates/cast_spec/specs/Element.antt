-- To be believed: one element: "Map; then, for a float going to an integer kind, refusal 5 if it is NaN or infinite; then rounding; then range."
use Rattle.std.specs.Prelude.{Bool, true, false, ◌&&◌, cond, List, [], ◌∷◌, ℕ, ◌-◌, ℤ, Option, Some, None, Err}
use Rattle.std.specs.Bool.{beq}
use Rattle.std.specs.Int.Signed.{lt_z, le_z}
use Rattle.grid.specs.Round.{pick}
use Rattle.grid.specs.Ternary.{ternary_of}
use Rattle.grid.specs.declared.RoundingMode.{RoundingMode}
use Rattle.patterns.specs.Kind.{Kind, integer, binary, grid_of, low_int, high_int, lowest, highest}
use Rattle.patterns.specs.Value.{Value, nan, inf, num, negative, value_of}
use Rattle.patterns.specs.Pattern.{pattern_of, infinity, nan_pattern, as_f64}
use Rattle.counts.specs.Counts.{by_pick}
use Rattle.counts.specs.declared.Fared.TheVariants.{Mapped, Exact, Clamped, Wrapped}
use Rattle.codes.specs.declared.OutOfRangeMode.{OutOfRangeMode}
use Rattle.codes.specs.declared.OutOfRangeMode.TheVariants as R
use Rattle.answers.specs.declared.ElementRefusal.TheVariants.{NanOrInf, OutOfRange, FloatOutOfRange}
use Rattle.answers.specs.Outcome.{Outcome, stored_as}

-- a map entry: the patterns of a key of the source kind and of a target of the target kind
pub record Entry : Type 0 where
  pub key : ℕ
  pub target : ℕ

pub record Settings : Type 0 where
  pub from : Kind
  pub to : Kind
  pub rule : RoundingMode
  pub range : OutOfRangeMode
  pub entries : List Entry

-- ---- map

-- "A NaN key matches every NaN; +0 and -0 match each other": otherwise equal as numbers, or infinities of one sign
abbrev pub matches : Value → Value → Bool
matches nan nan = true
matches nan (inf b) = false
matches nan (num y) = false
matches (inf a) nan = false
matches (inf a) (inf b) = beq a b
matches (inf a) (num y) = false
matches (num x) nan = false
matches (num x) (inf b) = false
matches (num x) (num y) = le_z x y && le_z y x

-- "The first matching entry wins."
abbrev pub lookup_of : Kind → Value → List Entry → Option ℕ
lookup_of k v [] = None
lookup_of k v (e ∷ es) = cond (matches v (value_of k e.key)) (Some e.target) (lookup_of k v es)

-- "The target is handed out unchanged and is not range-checked." o is the outcome where no entry matches
abbrev pub found_or : Option ℕ → Outcome → Outcome
found_or (Some t) o = stored_as t Mapped
found_or None o = o

-- ---- range

-- not "below the target's lowest finite number or above its highest"
abbrev pub in_range : Kind → ℤ → Bool
in_range k y = le_z (lowest k) y && le_z y (highest k)

-- "Clamp gives the nearer end": of a y past one of them
abbrev pub nearer_end : Kind → ℤ → ℤ
nearer_end k y = cond (lt_z y (lowest k)) (lowest k) (highest k)

-- "position, value, -MAX, MAX": the patterns just before the infinities
abbrev pub overrun : Kind → ℕ → ℕ → ℕ → Outcome
overrun k p w v = Err (FloatOutOfRange v (as_f64 k (infinity p w true - 1)) (as_f64 k (infinity p w false - 1)))

-- a pick y past the range, of an element with the f64 value v and the sign neg.
-- "Range code 0 .. then refuses the element; 1 clamps it; 2 with an integer target wraps it". A float's clamp "gives the infinity of the element's sign".
-- "Settings with range code 2 and a float target shall be turned down": no call that passes its checks asks the last line. It makes the steps total, and is
-- the Rust's.
unfoldable pub beyond : Kind → OutOfRangeMode → ℕ → Bool → ℤ → Outcome
beyond (integer s n) R.None v neg y = Err (OutOfRange v (low_int s n) (high_int s n))
beyond (integer s n) R.Clamp v neg y = stored_as (pattern_of (integer s n) neg (nearer_end (integer s n) y)) Clamped
beyond (integer s n) R.Wrap v neg y = stored_as (pattern_of (integer s n) neg y) Wrapped
beyond (binary p w s) R.None v neg y = overrun (binary p w s) p w v
beyond (binary p w s) R.Clamp v neg y = stored_as (infinity p w neg) Clamped
beyond (binary p w s) R.Wrap v neg y = overrun (binary p w s) p w v

-- the pick y of an element x. "a zero result keeps a float element's sign": neg is that of the element
abbrev pub ranged : Kind → OutOfRangeMode → ℕ → Bool → ℤ → ℤ → Outcome
ranged k r v neg x y = cond (in_range k y) (stored_as (pattern_of k neg y) (by_pick (ternary_of x y))) (beyond k r v neg y)

-- ---- the steps

-- an element of the pattern b and the value v that no entry matches; "infinities pass" to a float kind, "a NaN or infinity carried to a float is exact"
abbrev pub converted : Settings → ℕ → Kind → Value → Outcome
converted S b k (num x) = ranged k S.range (as_f64 S.from b) (negative S.from b) x (pick (grid_of k) S.rule x)
converted S b (integer s n) (inf neg) = Err (NanOrInf (as_f64 S.from b))
converted S b (integer s n) nan = Err (NanOrInf (as_f64 S.from b))
converted S b (binary p w s) (inf neg) = stored_as (infinity p w neg) Exact
converted S b (binary p w s) nan = stored_as (nan_pattern S.from p w b) Exact

unfoldable pub outcome_of : Settings → ℕ → Outcome
outcome_of S b = let v = value_of S.from b in found_or (lookup_of S.from v S.entries) (converted S b S.to v)

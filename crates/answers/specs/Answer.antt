-- To be believed: the papers' number and values for each case of an answer, and of what one element comes to; what a number leaves of the destination.
use Rattle.std.specs.Prelude.{Bool, ◌&&◌, not, ℕ, ltb, leb, cond, Option, Some, None, Ok, Err}
use Rattle.patterns.specs.Pattern.{low_bits}
use Rattle.counts.specs.Counts.{no_counts}
use Rattle.answers.specs.declared.ElementRefusal.TheVariants as E
use Rattle.answers.specs.declared.Refusal.TheVariants.{UnknownCode, BrokenMap, BrokenElement, LengthMismatch, NanOrInf, OutOfRange, FloatOutOfRange, BarredWrap}
use Rattle.answers.specs.declared.Reply.{Reply}
use Rattle.answers.specs.Outcome.{Outcome, Answer}

-- ---- the column "number" of the table "What the chunk call answers", and 8 "for wrap with target kind f32 or f64", or f16; 0 where all is converted
abbrev pub number_of : Answer → ℕ
number_of (Ok all) = 0
number_of (Err UnknownCode) = 1
number_of (Err BrokenMap) = 2
number_of (Err BrokenElement) = 3
number_of (Err (LengthMismatch s d)) = 4
number_of (Err (NanOrInf i v)) = 5
number_of (Err (OutOfRange i v lo hi)) = 6
number_of (Err (FloatOutOfRange i v lo hi)) = 7
number_of (Err BarredWrap) = 8

-- ---- what a refusal leaves: "Refusals 5 to 7 concern the first bad element", and name its position
abbrev pub names_position : ℕ → Bool
names_position n = leb 5 n && leb n 7

-- "Refusals 1 to 4 leave the destination untouched"; "Like 1 to 4, number 8 leaves all the destination as it was": every refusal that names no position
abbrev pub leaves_all : ℕ → Bool
leaves_all n = ltb 0 n && not (names_position n)

-- ---- the column "returned": what comes back beside the number, each value as 64 bits, and 0 where an answer has no such value
pub record Values : Type 0 where
  pub source_count : ℕ
  pub destination_count : ℕ
  pub position : ℕ
  pub value : ℕ
  pub lowest : ℕ
  pub highest : ℕ

abbrev pub no_values : Values
no_values = record { source_count = 0; destination_count = 0; position = 0; value = 0; lowest = 0; highest = 0 }

-- "both counts"
abbrev pub both_counts : ℕ → ℕ → Values
both_counts s d = record { source_count = s; destination_count = d; position = 0; value = 0; lowest = 0; highest = 0 }

-- "position, value, lowest, highest"
abbrev pub element_values : ℕ → ℕ → ℕ → ℕ → Values
element_values i v lo hi = record { source_count = 0; destination_count = 0; position = i; value = v; lowest = lo; highest = hi }

-- the lowest end of an integer kind is signed, and stands as its 64 bits, two's complement
abbrev pub values_of : Answer → Values
values_of (Ok all) = no_values
values_of (Err UnknownCode) = no_values
values_of (Err BrokenMap) = no_values
values_of (Err BrokenElement) = no_values
values_of (Err (LengthMismatch s d)) = both_counts s d
values_of (Err (NanOrInf i v)) = element_values i v 0 0
values_of (Err (OutOfRange i v lo hi)) = element_values i v (low_bits 64 lo) hi
values_of (Err (FloatOutOfRange i v lo hi)) = element_values i v lo hi
values_of (Err BarredWrap) = no_values

abbrev pub position_of : Answer → ℕ
position_of r = (values_of r).position

-- the position, where the answer names one
abbrev pub named_position : Answer → Option ℕ
named_position r = cond (names_position (number_of r)) (Some (position_of r)) None

-- ---- of what the element at a position comes to: the refusal that it is, and 0 where it is stored
abbrev pub outcome_number : Outcome → ℕ
outcome_number (Ok s) = 0
outcome_number (Err (E.NanOrInf v)) = 5
outcome_number (Err (E.OutOfRange v lo hi)) = 6
outcome_number (Err (E.FloatOutOfRange v lo hi)) = 7

abbrev pub outcome_values : ℕ → Outcome → Values
outcome_values i (Ok s) = no_values
outcome_values i (Err (E.NanOrInf v)) = element_values i v 0 0
outcome_values i (Err (E.OutOfRange v lo hi)) = element_values i v (low_bits 64 lo) hi
outcome_values i (Err (E.FloatOutOfRange v lo hi)) = element_values i v lo hi

-- ---- "Refusals 1 to 4 give five zeros"; "Like 1 to 4, number 8 .. gives five zeros"
abbrev pub unconverted : Answer → Reply
unconverted a = record { answer = a; counts = no_counts }

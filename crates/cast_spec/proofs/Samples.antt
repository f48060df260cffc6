-- The samples of document 01, the inputs that tell its false casts apart, those of half precision, whole calls and their previews: tables, each proved by one theorem.
use mathlib.Core.Path.{◌≡◌, refl}
use mathlib.Core.List.{List, [], ◌∷◌, ◌++◌, map}
use Prim.Native.Nat.{ℕ, ◌+◌, ◌-◌, ◌*◌, ◌^◌, ◌<◌}
use lib.Dec.{lit<}
use lib.Ieee.{size}
use lib.IntN.{pos, neg_ℤ}
use Rattle.grid.specs.Round.{pick}
use Rattle.grid.specs.Ternary.{ternary_of}
use Rattle.grid.specs.declared.RoundingMode.{RoundingMode}
use Rattle.grid.specs.declared.RoundingMode.TheVariants.{NearestEven, TowardsZero, TowardsPositive, TowardsNegative, NearestAway}
use Rattle.patterns.specs.Float.{bits_mag}
use Rattle.kinds.specs.Table.{kind_of}
use Rattle.patterns.specs.Value.{value_of}
use Rattle.patterns.specs.Kind.{Kind, f16, f32, f64, lowest, highest}
use Rattle.counts.specs.Counts.{no_counts}
use Rattle.counts.specs.declared.Counts.{Counts}
use Rattle.counts.specs.declared.Fared.TheVariants.{Mapped, Exact, Rounded, Clamped, Wrapped}
use Rattle.codes.specs.declared.OutOfRangeMode.{OutOfRangeMode}
use Rattle.codes.specs.declared.OutOfRangeMode.TheVariants.{None, Clamp, Wrap}
use Rattle.cast_spec.specs.Element.{Entry, beyond, outcome_of}
use Rattle.patterns.specs.Pattern.{pattern_of, nan_pattern}
use Rattle.cast_spec.specs.Chunk.{Inputs, inputs, dw, settings_of, call_of, outcome_at, answer_of, counts_of, destination_of, converted_of}
use Rattle.cast_spec.specs.Preview.{preview_of}
use Rattle.answers.specs.declared.Preview.{Preview}
use Rattle.bytes_le.specs.Bytes.{to_le}
use Rattle.answers.specs.declared.Refusal.TheVariants as A
use Rattle.answers.specs.Outcome.{Answer, Outcome, stored_as}
use Rattle.answers.specs.declared.ElementRefusal.TheVariants.{FloatOutOfRange, NanOrInf, OutOfRange}
use Rattle.std.specs.Prelude.{Err, Ok}

-- ---- what the rows are written with
abbrev i8 : Kind
i8 = kind_of 0

abbrev i32 : Kind
i32 = kind_of 2

abbrev i64 : Kind
i64 = kind_of 3

abbrev u8 : Kind
u8 = kind_of 4

abbrev u16 : Kind
u16 = kind_of 5

abbrev u32 : Kind
u32 = kind_of 6

abbrev u64 : Kind
u64 = kind_of 7

abbrev entry : ℕ → ℕ → Entry
entry k t = record { key = k; target = t }

-- "Map NaN to 9, 0 to 7, 0 to 8"
abbrev three : List Entry
three = entry 0x7ff8_0000_0000_0000 9 ∷ entry 0 7 ∷ entry 0 8 ∷ []

-- "position, value, -MAX, MAX": past f32, the value v
abbrev past_f32 : ℕ → Outcome
past_f32 v = Err (FloatOutOfRange v 0xc7ef_ffff_e000_0000 0x47ef_ffff_e000_0000)

-- past f16
abbrev past_f16 : ℕ → Outcome
past_f16 v = Err (FloatOutOfRange v 0xc0ef_fc00_0000_0000 0x40ef_fc00_0000_0000)

pub record Sample : Type 0 where
  pub got : Outcome
  pub wanted : Outcome

-- source kind, target kind, rounding, range, map, the element's pattern, and the outcome that is wanted
abbrev row : Kind → Kind → RoundingMode → OutOfRangeMode → List Entry → ℕ → Outcome → Sample
row from to rule range entries pattern wanted = record { got = outcome_of (record { from = from; to = to; rule = rule; range = range; entries = entries }) pattern; wanted = wanted }

unfoldable pub samples : List Sample
samples =
    -- ---- "Samples on each side". `OutOfRange` is 6, with the target's ends; `past_f32` is 7; `NanOrInf` is 5.
    -- 1. 2.5 f64 to u8: nearest-even 2, nearest-away 3.
    row f64 u8 NearestEven None [] 0x4004_0000_0000_0000 (stored_as 2 Rounded)
    ∷ row f64 u8 NearestAway None [] 0x4004_0000_0000_0000 (stored_as 3 Rounded)
    -- 2. -0.5 to u8: nearest-even 0; towards-negative: 6, clamp 0, wrap 255.
    ∷ row f64 u8 NearestEven None [] 0xbfe0_0000_0000_0000 (stored_as 0 Rounded)
    ∷ row f64 u8 TowardsNegative None [] 0xbfe0_0000_0000_0000 (Err (OutOfRange 0xbfe0_0000_0000_0000 (pos 0) 255))
    ∷ row f64 u8 TowardsNegative Clamp [] 0xbfe0_0000_0000_0000 (stored_as 0 Clamped)
    ∷ row f64 u8 TowardsNegative Wrap [] 0xbfe0_0000_0000_0000 (stored_as 255 Wrapped)
    -- 3. 0.49999999999999994, nearest-away, to i32: 0.
    ∷ row f64 i32 NearestAway None [] 0x3fdf_ffff_ffff_ffff (stored_as 0 Rounded)
    -- 4. 2^63 f64 to i64: 6; clamp 2^63 - 1; wrap -2^63.
    ∷ row f64 i64 NearestEven None [] 0x43e0_0000_0000_0000 (Err (OutOfRange 0x43e0_0000_0000_0000 (neg_ℤ (pos (2 ^ 63))) (2 ^ 63 - 1)))
    ∷ row f64 i64 NearestEven Clamp [] 0x43e0_0000_0000_0000 (stored_as (2 ^ 63 - 1) Clamped)
    ∷ row f64 i64 NearestEven Wrap [] 0x43e0_0000_0000_0000 (stored_as (2 ^ 64 - 2 ^ 63) Wrapped)
    -- 5. NaN to i32 under clamp: 5.
    ∷ row f64 i32 NearestEven Clamp [] 0x7ff8_0000_0000_0000 (Err (NanOrInf 0x7ff8_0000_0000_0000))
    -- 6. 300 f64 to i8, wrap: 44.
    ∷ row f64 i8 NearestEven Wrap [] 0x4072_c000_0000_0000 (stored_as 44 Wrapped)
    -- 7. 255 u8 to i8: clamp 127, wrap -1.
    ∷ row u8 i8 NearestEven Clamp [] 255 (stored_as 127 Clamped)
    ∷ row u8 i8 NearestEven Wrap [] 255 (stored_as (2 ^ 8 - 1) Wrapped)
    -- 8. 16777217 i64 to f32: nearest-even 16777216, nearest-away 16777218; its negative, towards-positive, -16777216.
    ∷ row i64 f32 NearestEven None [] 16777217 (stored_as 0x4b80_0000 Rounded)
    ∷ row i64 f32 NearestAway None [] 16777217 (stored_as 0x4b80_0001 Rounded)
    ∷ row i64 f32 TowardsPositive None [] (2 ^ 64 - 16777217) (stored_as 0xcb80_0000 Rounded)
    -- 9. 2^64 - 1 u64 to f64: nearest-even 2^64; towards-zero 18446744073709549568.
    ∷ row u64 f64 NearestEven None [] (2 ^ 64 - 1) (stored_as 0x43f0_0000_0000_0000 Rounded)
    ∷ row u64 f64 TowardsZero None [] (2 ^ 64 - 1) (stored_as 0x43ef_ffff_ffff_ffff Rounded)
    -- 10. 2^128 - 2^103 f64 to f32: towards-zero bits 7f7fffff hexadecimal; nearest-even 7.
    ∷ row f64 f32 TowardsZero None [] 0x47ef_ffff_f000_0000 (stored_as 0x7f7f_ffff Rounded)
    ∷ row f64 f32 NearestEven None [] 0x47ef_ffff_f000_0000 (past_f32 0x47ef_ffff_f000_0000)
    -- 11. 2^128, towards-zero: 7; clamp +infinity.
    ∷ row f64 f32 TowardsZero None [] 0x47f0_0000_0000_0000 (past_f32 0x47f0_0000_0000_0000)
    ∷ row f64 f32 TowardsZero Clamp [] 0x47f0_0000_0000_0000 (stored_as 0x7f80_0000 Clamped)
    -- 12. 2^-150 to f32: nearest-even +0, nearest-away 2^-149.
    ∷ row f64 f32 NearestEven None [] 0x3690_0000_0000_0000 (stored_as 0 Rounded)
    ∷ row f64 f32 NearestAway None [] 0x3690_0000_0000_0000 (stored_as 1 Rounded)
    -- 13. -2^-200 to f32, towards-positive: -0.
    ∷ row f64 f32 TowardsPositive None [] 0xb370_0000_0000_0000 (stored_as 0x8000_0000 Rounded)
    -- 14. Map NaN to 9, 0 to 7, 0 to 8: -0 gives 7.
    ∷ row f64 u8 NearestEven None three 0x8000_0000_0000_0000 (stored_as 7 Mapped)
    -- ---- "Plausible and false": the smallest input that tells each apart, with the right answer; the comment says what the false cast gives
    -- "adding 0.5 and taking the floor for nearest-away": 1 for 0.49999999999999994, as the sum rounds to 1; and 0 for -0.5.
    ∷ row f64 u8 NearestAway None [] 0x3fdf_ffff_ffff_ffff (stored_as 0 Rounded)
    ∷ row f64 i8 NearestAway None [] 0xbfe0_0000_0000_0000 (stored_as (2 ^ 8 - 1) Rounded)
    -- "testing `value <= highest` after the highest was rounded up to 2^k": 2^31 f32 to i32 is accepted, as 2^31 - 1 is 2^31 in f32.
    ∷ row f32 i32 NearestEven None [] 0x4f00_0000 (Err (OutOfRange 0x41e0_0000_0000_0000 (neg_ℤ (pos (2 ^ 31))) (2 ^ 31 - 1)))
    -- "making towards-zero give MAX for 2^128": 7f7fffff for 2^128, in sample 11; ff7fffff for -2^128, here under clamp.
    ∷ row f64 f32 TowardsZero Clamp [] 0xc7f0_0000_0000_0000 (stored_as 0xff80_0000 Clamped)
    -- "rounding i64 to f64 before f32": 2^53 for 2^53 + 2^29 + 1, which f64 rounds to the halfway 2^53 + 2^29. Right is 2^53 + 2^30.
    ∷ row i64 f32 NearestEven None [] (2 ^ 53 + 2 ^ 29 + 1) (stored_as 0x5a00_0001 Rounded)
    -- "range-checking a map target": 7 for 1 mapped to +infinity.
    ∷ row f64 f64 NearestEven None (entry 0x3ff0_0000_0000_0000 0x7ff0_0000_0000_0000 ∷ []) 0x3ff0_0000_0000_0000 (stored_as 0x7ff0_0000_0000_0000 Mapped)
    ∷ row f64 f32 NearestEven None (entry 0x3ff0_0000_0000_0000 0x7f80_0000 ∷ []) 0x3ff0_0000_0000_0000 (stored_as 0x7f80_0000 Mapped)
    -- ---- "A NaN key matches every NaN": any fraction, either sign. "The target is handed out unchanged": a NaN's bits too.
    ∷ row f64 u8 NearestEven None three 0xfff0_0000_0000_0001 (stored_as 9 Mapped)
    ∷ row f64 f32 NearestEven None (entry 0 0x7f80_0001 ∷ []) 0 (stored_as 0x7f80_0001 Mapped)
    -- ---- "NaN to a float kind": "same kind, bits unchanged"
    ∷ row f64 f64 NearestEven None [] 0x7ff0_0000_0000_0001 (stored_as 0x7ff0_0000_0000_0001 Exact)
    -- "f64 to f32, sign kept, top 23 fraction bits kept, highest fraction bit set"
    ∷ row f64 f32 NearestEven None [] 0xfff0_0000_2000_0001 (stored_as 0xffc0_0001 Exact)
    -- "f32 to f64, sign kept, fraction placed at the top, highest fraction bit set"
    ∷ row f32 f64 NearestEven None [] 0xff80_0001 (stored_as 0xfff8_0000_2000_0000 Exact)
    -- ---- "The value is the unrounded element as f64, an integer by nearest-even": 2^53 + 1 as 2^53; "a NaN by the rule above"
    ∷ row i64 u8 NearestEven None [] (2 ^ 53 + 1) (Err (OutOfRange 0x4340_0000_0000_0000 (pos 0) 255))
    ∷ row f32 u8 NearestEven None [] 0xff80_0001 (Err (NanOrInf 0xfff8_0000_2000_0000))
    -- ---- "Widening and same-kind float casts are exact": -2^-149. "infinities pass". "Integer zero gives +0."
    ∷ row f32 f64 NearestEven None [] 0x8000_0001 (stored_as 0xb6a0_0000_0000_0000 Exact)
    ∷ row f64 f32 NearestEven None [] 0xfff0_0000_0000_0000 (stored_as 0xff80_0000 Exact)
    ∷ row i64 f64 NearestEven None [] 0 (stored_as 0 Exact)
    -- ---- how they fared: -0 to 0 is exact and -0.3 to 0 is not, and a pick past the range is clamped only: 300.5; an infinity under clamp is carried
    ∷ row f64 u8 NearestEven None [] 0x8000_0000_0000_0000 (stored_as 0 Exact)
    ∷ row f64 u8 NearestEven None [] 0xbfd3_3333_3333_3333 (stored_as 0 Rounded)
    ∷ row f64 u8 NearestEven Clamp [] 0x4072_c800_0000_0000 (stored_as 255 Clamped)
    ∷ row f64 f32 NearestEven Clamp [] 0x7ff0_0000_0000_0000 (stored_as 0x7f80_0000 Exact)
    -- ---- -2^128, past the other end
    ∷ row f64 f32 NearestEven None [] 0xc7f0_0000_0000_0000 (past_f32 0xc7f0_0000_0000_0000)
    ∷ []

pub samples_hold : map (λ (s : Sample). s.got) samples ≡ map (λ (s : Sample). s.wanted) samples
unfolding samples ternary_of outcome_of beyond nan_pattern pattern_of value_of lowest highest pick bits_mag size
samples_hold = refl

-- ---- half precision: each row is one of "65519 u16 gives 65504 and 65520 is refused by 7" or tells a false cast apart
unfoldable pub half_samples : List Sample
half_samples =
    -- u16 65519 and 65520, under none and clamp; 65535 towards zero is MAX, and u32 65536 is not; -65520 clamped has its sign
    row u16 f16 NearestEven None [] 65519 (stored_as 0x7bff Rounded)
    ∷ row u16 f16 NearestEven None [] 65520 (past_f16 0x40ef_fe00_0000_0000)
    ∷ row u16 f16 NearestEven Clamp [] 65520 (stored_as 0x7c00 Clamped)
    ∷ row u16 f16 TowardsZero None [] 65535 (stored_as 0x7bff Rounded)
    ∷ row u32 f16 TowardsZero None [] 65536 (past_f16 0x40f0_0000_0000_0000)
    ∷ row i32 f16 NearestEven Clamp [] (2 ^ 32 - 65520) (stored_as 0xfc00 Clamped)
    -- 2^64 - 1, whose exponent is far past the last of f16
    ∷ row u64 f16 TowardsZero Clamp [] (2 ^ 64 - 1) (stored_as 0x7c00 Clamped)
    -- 65504 and 2049, which has 12 significant bits: once exact, once a tie
    ∷ row u16 f16 NearestEven None [] 65504 (stored_as 0x7bff Exact)
    ∷ row u16 f16 NearestEven None [] 2049 (stored_as 0x6800 Rounded)
    ∷ row u16 f16 NearestAway None [] 2049 (stored_as 0x6801 Rounded)
    -- 65520 - 2^-20 is below the tie, 65520 the tie, and 65536 past any rule
    ∷ row f64 f16 NearestEven None [] 0x40ef_fdff_fffe_0000 (stored_as 0x7bff Rounded)
    ∷ row f64 f16 NearestEven None [] 0x40ef_fe00_0000_0000 (past_f16 0x40ef_fe00_0000_0000)
    ∷ row f64 f16 TowardsZero None [] 0x40ef_ffff_ffff_ffff (stored_as 0x7bff Rounded)
    ∷ row f64 f16 TowardsZero None [] 0x40f0_0000_0000_0000 (past_f16 0x40f0_0000_0000_0000)
    -- 1 + 2^-11 + 2^-40: by way of f32 it would be a tie, and 3c00
    ∷ row f64 f16 NearestEven None [] 0x3ff0_0200_0000_1000 (stored_as 0x3c01 Rounded)
    -- 1 + 2^-11 of f32, a tie, and the next f32 above it
    ∷ row f32 f16 NearestEven None [] 0x3f80_1000 (stored_as 0x3c00 Rounded)
    ∷ row f32 f16 NearestEven None [] 0x3f80_1001 (stored_as 0x3c01 Rounded)
    -- 2^-25, half of the smallest number
    ∷ row f64 f16 NearestEven None [] 0x3e60_0000_0000_0000 (stored_as 0 Rounded)
    ∷ row f64 f16 NearestAway None [] 0x3e60_0000_0000_0000 (stored_as 1 Rounded)
    -- about the largest subnormal, 03ff: halfway to the number below it, and halfway to the smallest normal number
    ∷ row f64 f16 NearestEven None [] 0x3f0f_f400_0000_0000 (stored_as 0x03fe Rounded)
    ∷ row f64 f16 NearestEven None [] 0x3f0f_f800_0000_0000 (stored_as 0x03ff Exact)
    ∷ row f64 f16 NearestEven None [] 0x3f0f_fc00_0000_0000 (stored_as 0x0400 Rounded)
    ∷ row f64 f16 TowardsZero None [] 0x3f0f_fc00_0000_0000 (stored_as 0x03ff Rounded)
    -- from f16: the largest subnormal, the smallest negative number, MAX, -0
    ∷ row f16 f64 NearestEven None [] 0x03ff (stored_as 0x3f0f_f800_0000_0000 Exact)
    ∷ row f16 f32 NearestEven None [] 0x8001 (stored_as 0xb380_0000 Exact)
    ∷ row f16 u16 NearestEven None [] 0x7bff (stored_as 65504 Exact)
    ∷ row f16 f32 NearestEven None [] 0x8000 (stored_as 0x8000_0000 Exact)
    -- infinities pass
    ∷ row f64 f16 NearestEven None [] 0xfff0_0000_0000_0000 (stored_as 0xfc00 Exact)
    ∷ row f16 f64 NearestEven None [] 0x7c00 (stored_as 0x7ff0_0000_0000_0000 Exact)
    -- "a NaN from f64 or f32 keeps its sign and its top ten fraction bits, with the highest set"
    ∷ row f64 f16 NearestEven None [] 0xfff0_0400_0000_0001 (stored_as 0xfe01 Exact)
    ∷ row f64 f16 NearestEven None [] 0x7ff0_0000_0000_0001 (stored_as 0x7e00 Exact)
    ∷ row f32 f16 NearestEven None [] 0xff80_2001 (stored_as 0xfe01 Exact)
    -- "from f16 to f32 or f64 the fraction goes to the top, likewise"; to f16 it is unchanged; refused, it is the widened one
    ∷ row f16 f64 NearestEven None [] 0xfc01 (stored_as 0xfff8_0400_0000_0000 Exact)
    ∷ row f16 f32 NearestEven None [] 0xfc01 (stored_as 0xffc0_2000 Exact)
    ∷ row f16 f16 NearestEven None [] 0xfc01 (stored_as 0xfc01 Exact)
    ∷ row f16 u8 NearestEven None [] 0xfc01 (Err (NanOrInf 0xfff8_0400_0000_0000))
    -- keys +0 and -0: either zero is matched by the first; a target is stored as it stands
    ∷ row f16 u8 NearestEven None (entry 0 7 ∷ entry 0x8000 8 ∷ []) 0x8000 (stored_as 7 Mapped)
    ∷ row f16 u8 NearestEven None (entry 0x8000 8 ∷ entry 0 7 ∷ []) 0 (stored_as 8 Mapped)
    ∷ row f16 u8 NearestEven None (entry 0x7e00 9 ∷ []) 0xfc01 (stored_as 9 Mapped)
    ∷ row u8 f16 NearestEven None (entry 255 0xfc01 ∷ []) 255 (stored_as 0xfc01 Mapped)
    ∷ []

pub half_samples_hold : map (λ (s : Sample). s.got) half_samples ≡ map (λ (s : Sample). s.wanted) half_samples
unfolding half_samples ternary_of outcome_of beyond nan_pattern pattern_of value_of lowest highest pick bits_mag size
half_samples_hold = refl

-- ---- whole calls: the answer, the counts, and the destination's bytes
pub record Left : Type 0 where
  pub answer : Answer
  pub counts : Counts
  pub bytes : List ℕ

pub record Chunk : Type 0 where
  pub inputs : Inputs
  pub wanted : Left

abbrev left : Inputs → Left
left I = record { answer = answer_of I; counts = counts_of I; bytes = destination_of I }

abbrev call : Inputs → Answer → Counts → List ℕ → Chunk
call I r t d = record { inputs = I; wanted = record { answer = r; counts = t; bytes = d } }

-- mapped, exact, rounded, clamped, wrapped
abbrev pub five : ℕ → ℕ → ℕ → ℕ → ℕ → Counts
five m e r c w = record { mapped = m; exact = e; rounded = r; clamped = c; wrapped = w }

-- what stands in a destination of n bytes before the call
abbrev old : ℕ → List ℕ
old n = to_le n 0xa7a6_a5a4_a3a2_a1a0

-- 2.5, NaN, -0, 300, 100 f64 to u8 by nearest-even, with NaN mapped to 9 and 0 to 7
abbrev pub mixed : ℕ → Inputs
mixed range = inputs
    (to_le 8 0x4004_0000_0000_0000 ++ to_le 8 0xfff8_0000_0000_0000 ++ to_le 8 0x8000_0000_0000_0000 ++ to_le 8 0x4072_c000_0000_0000 ++ to_le 8 0x4059_0000_0000_0000)
    (old 5)
    (to_le 8 0x7ff8_0000_0000_0000 ++ to_le 8 0)
    (9 ∷ 7 ∷ [])
    9
    4
    0
    range

-- 0, 1, 2.5, 300 f64 to u8 by nearest-even, with 0 mapped to 7
abbrev pub one_of_each : ℕ → Inputs
one_of_each range = inputs (to_le 8 0 ++ to_le 8 0x3ff0_0000_0000_0000 ++ to_le 8 0x4004_0000_0000_0000 ++ to_le 8 0x4072_c000_0000_0000) (old 4) (to_le 8 0) (7 ∷ []) 9 4 0 range

-- f64 to u8 by nearest-even, with no map
abbrev plain : List ℕ → List ℕ → ℕ → Inputs
plain s d range = inputs s d [] [] 9 4 0 range

unfoldable pub chunks : List Chunk
chunks =
    -- "those before it are converted, it and all later ones untouched": 300 is refused at 3
    call (mixed 0) (Err (A.OutOfRange 3 0x4072_c000_0000_0000 (pos 0) 255)) (five 2 0 1 0 0) (2 ∷ 9 ∷ 7 ∷ 0xa3 ∷ 0xa4 ∷ [])
    -- clamp, and wrap
    ∷ call (mixed 1) (Ok tt) (five 2 1 1 1 0) (2 ∷ 9 ∷ 7 ∷ 255 ∷ 100 ∷ [])
    ∷ call (mixed 2) (Ok tt) (five 2 1 1 0 1) (2 ∷ 9 ∷ 7 ∷ 44 ∷ 100 ∷ [])
    -- one of each class: 0, which is mapped, 1, 2.5 and 300, clamped and wrapped
    ∷ call (one_of_each 1) (Ok tt) (five 1 1 1 1 0) (7 ∷ 1 ∷ 2 ∷ 255 ∷ [])
    ∷ call (one_of_each 2) (Ok tt) (five 1 1 1 0 1) (7 ∷ 1 ∷ 2 ∷ 44 ∷ [])
    -- 1: "a kind, rounding or range code not listed"; "Numbers 1 to 4 are tested in that order": whatever else is broken
    ∷ call (mixed 3) (Err A.UnknownCode) no_counts (old 5)
    ∷ call (inputs (0 ∷ []) (old 3) (0 ∷ []) [] 9 11 0 0) (Err A.UnknownCode) no_counts (old 3)
    ∷ call (inputs (0 ∷ []) (old 3) (0 ∷ []) [] 9 9 5 0) (Err A.UnknownCode) no_counts (old 3)
    -- 8: "wrap with target kind f32 or f64, directly after 1": "empty chunks included", 1 f64, and a broken map or elements; a bad rounding code is 1
    ∷ call (inputs [] [] [] [] 9 8 0 2) (Err A.BarredWrap) no_counts []
    ∷ call (inputs (to_le 8 0x3ff0_0000_0000_0000) (old 8) [] [] 9 9 0 2) (Err A.BarredWrap) no_counts (old 8)
    ∷ call (inputs (0 ∷ []) (old 1) [] [] 9 8 0 2) (Err A.BarredWrap) no_counts (old 1)
    ∷ call (inputs (0 ∷ []) (old 4) (0 ∷ []) [] 4 8 0 2) (Err A.BarredWrap) no_counts (old 4)
    ∷ call (inputs [] [] [] [] 9 10 0 2) (Err A.BarredWrap) no_counts []
    ∷ call (inputs [] [] [] [] 9 8 5 2) (Err A.UnknownCode) no_counts []
    -- clamp to a float is permitted
    ∷ call (inputs [] [] [] [] 9 8 0 1) (Ok tt) no_counts []
    -- 2: "map key bytes or target bytes not whole elements, or their counts differ"
    ∷ call (inputs (0 ∷ []) (old 3) (0 ∷ []) [] 9 9 0 0) (Err A.BrokenMap) no_counts (old 3)
    ∷ call (inputs [] [] (0 ∷ 1 ∷ []) (0 ∷ []) 4 4 0 0) (Err A.BrokenMap) no_counts []
    -- 3: "source or destination bytes not whole elements"
    ∷ call (plain (0 ∷ []) (old 3) 0) (Err A.BrokenElement) no_counts (old 3)
    ∷ call (inputs (0 ∷ []) (old 3) [] [] 4 5 0 0) (Err A.BrokenElement) no_counts (old 3)
    -- 4: "element counts differ", with "both counts"
    ∷ call (plain (to_le 8 0 ++ to_le 8 0) (old 3) 0) (Err (A.LengthMismatch 2 3)) no_counts (old 3)
    -- "Two empty chunks that pass 1 to 4 are accepted", where 8 does not refuse them
    ∷ call (plain [] [] 0) (Ok tt) no_counts []
    -- "Number 5 is given under clamp and wrap too.": 2.5, NaN
    ∷ call (plain (to_le 8 0x4004_0000_0000_0000 ++ to_le 8 0x7ff8_0000_0000_0000) (old 2) 1) (Err (A.NanOrInf 1 0x7ff8_0000_0000_0000)) (five 0 0 1 0 0) (2 ∷ 0xa1 ∷ [])
    -- a refused element counts nowhere: 300
    ∷ call (plain (to_le 8 0x4072_c000_0000_0000) (old 1) 0) (Err (A.OutOfRange 0 0x4072_c000_0000_0000 (pos 0) 255)) no_counts (old 1)
    -- 7: "pick past a float target", "with range code 0 only": 1, 2^128 f64 to f32
    ∷ call (inputs (to_le 8 0x3ff0_0000_0000_0000 ++ to_le 8 0x47f0_0000_0000_0000) (old 8) [] [] 9 8 0 0) (Err (A.FloatOutOfRange 1 0x47f0_0000_0000_0000 0xc7ef_ffff_e000_0000 0x47ef_ffff_e000_0000)) (five 0 1 0 0 0) (to_le 4 0x3f80_0000 ++ (0xa4 ∷ 0xa5 ∷ 0xa6 ∷ 0xa7 ∷ []))
    -- "An integer may now overrun a float target": 1, 65520 u16 to f16
    ∷ call (inputs (to_le 2 1 ++ to_le 2 65520) (old 4) [] [] 5 10 0 0) (Err (A.FloatOutOfRange 1 0x40ef_fe00_0000_0000 0xc0ef_fc00_0000_0000 0x40ef_fc00_0000_0000)) (five 0 1 0 0 0) (to_le 2 0x3c00 ++ (0xa2 ∷ 0xa3 ∷ []))
    ∷ []

pub chunks_hold : map (λ (s : Chunk). left s.inputs) chunks ≡ map (λ (s : Chunk). s.wanted) chunks
unfolding chunks answer_of counts_of destination_of call_of settings_of outcome_at ternary_of outcome_of beyond nan_pattern pattern_of value_of lowest highest pick bits_mag size
chunks_hold = refl

-- ---- previews: the answer, the counts, and how many bytes would change
pub record PreviewSample : Type 0 where
  pub inputs : Inputs
  pub wanted : Preview

abbrev preview : Inputs → Answer → Counts → ℕ → PreviewSample
preview I r t n = record { inputs = I; wanted = record { reply = record { answer = r; counts = t }; changed = n } }

-- u16 1 over 0
abbrev one_over_0 : Inputs
one_over_0 = inputs (to_le 2 1) (to_le 2 0) [] [] 5 5 0 0

unfoldable pub previews : List PreviewSample
previews =
    -- two bytes are written, and one of them would change
    preview one_over_0 (Ok tt) (five 0 1 0 0 0) 1
    -- u16 257 over 0: one element, and both of its bytes would change
    ∷ preview (inputs (to_le 2 257) (to_le 2 0) [] [] 5 5 0 0) (Ok tt) (five 0 1 0 0 0) 2
    -- f64 0 over -0: one number, and one byte that would change
    ∷ preview (inputs (to_le 8 0) (to_le 8 0x8000_0000_0000_0000) [] [] 9 9 0 0) (Ok tt) (five 0 1 0 0 0) 1
    -- 7, 300 i16 to u8 over 0, 0: the 7 before the refused element counts
    ∷ preview (inputs (to_le 2 7 ++ to_le 2 300) (0 ∷ 0 ∷ []) [] [] 1 4 0 0) (Err (A.OutOfRange 1 0x4072_c000_0000_0000 (pos 0) 255)) (five 0 1 0 0 0) 1
    -- every byte would change, and over what the call leaves none
    ∷ preview (mixed 1) (Ok tt) (five 2 1 1 1 0) 5
    ∷ preview (inputs (mixed 1).source (2 ∷ 9 ∷ 7 ∷ 255 ∷ 100 ∷ []) (mixed 1).keys (mixed 1).targets 9 4 0 1) (Ok tt) (five 2 1 1 1 0) 0
    -- refusals that leave all the destination as it was
    ∷ preview (mixed 3) (Err A.UnknownCode) no_counts 0
    ∷ preview (inputs (to_le 8 0) (old 4) [] [] 9 8 0 2) (Err A.BarredWrap) no_counts 0
    ∷ preview (inputs [] [] (0 ∷ 1 ∷ []) (0 ∷ []) 4 4 0 0) (Err A.BrokenMap) no_counts 0
    ∷ preview (plain (0 ∷ []) (old 3) 0) (Err A.BrokenElement) no_counts 0
    ∷ preview (plain (to_le 8 0 ++ to_le 8 0) (old 3) 0) (Err (A.LengthMismatch 2 3)) no_counts 0
    ∷ []

pub previews_hold : map (λ (s : PreviewSample). preview_of s.inputs) previews ≡ map (λ (s : PreviewSample). s.wanted) previews
unfolding previews preview_of answer_of counts_of destination_of call_of settings_of outcome_at ternary_of outcome_of beyond nan_pattern pattern_of value_of lowest highest pick bits_mag size
previews_hold = refl

-- more than none and fewer than all of the bytes that are written
pub some_not_all : (0 < (preview_of one_over_0).changed) × ((preview_of one_over_0).changed < converted_of (call_of one_over_0).count (answer_of one_over_0) * dw one_over_0)
unfolding preview_of answer_of destination_of call_of settings_of outcome_at ternary_of outcome_of pattern_of value_of lowest highest pick bits_mag size
some_not_all = (lit< tt, lit< tt)

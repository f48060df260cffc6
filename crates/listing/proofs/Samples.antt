-- Whole listings: a table, proved by one theorem. The first is document 01's example.
use mathlib.Core.Path.{◌≡◌, refl}
use mathlib.Core.List.{List, [], ◌∷◌, ◌++◌, map}
use Prim.Native.Nat.{ℕ}
use lib.Ieee.{size}
use Rattle.grid.specs.Round.{pick}
use Rattle.patterns.specs.Float.{bits_mag}
use Rattle.patterns.specs.Kind.{lowest, highest}
use Rattle.patterns.specs.Value.{value_of}
use Rattle.patterns.specs.Pattern.{pattern_of, nan_pattern}
use Rattle.bytes_le.specs.Bytes.{to_le}
use Rattle.cast_spec.specs.Element.{beyond, outcome_of}
use Rattle.cast_spec.specs.Chunk.{settings_of, call_of, outcome_at, answer_of, destination_of}
use Rattle.report.specs.Report.{ok, refused, at, newline}
use Rattle.listing_input.specs.Input.{refusal_of}
use Rattle.listing.specs.Listing.{listing_of}

pub record Sample : Type 0 where
  pub input : List ℕ
  pub wanted : List ℕ

abbrev row : List ℕ → List ℕ → Sample
row input wanted = record { input = input; wanted = wanted }

-- the four codes and the entry count
abbrev head : ℕ → ℕ → ℕ → ℕ → ℕ → List ℕ
head from to rounding range entries = from ∷ to ∷ rounding ∷ range ∷ to_le 2 entries

-- a text as a line
abbrev end : List ℕ → List ℕ
end text = text ++ newline

unfoldable pub samples : List Sample
samples =
    -- `09 04 00 00 00 00`, 2.5, 300: `refused 6 at 1`, `02`
    row (head 9 4 0 0 0 ++ to_le 8 0x4004_0000_0000_0000 ++ to_le 8 0x4072_c000_0000_0000) (end (refused ++ (54 ∷ []) ++ at ++ (49 ∷ [])) ++ end (48 ∷ 50 ∷ []))
    -- "Fewer than six bytes prints `refused 1`"; a bad code "comes before these last two"
    ∷ row (9 ∷ 4 ∷ 0 ∷ 0 ∷ 0 ∷ []) (end (refused ++ (49 ∷ [])))
    ∷ row (head 9 4 0 3 1) (end (refused ++ (49 ∷ [])))
    ∷ row (head 11 4 0 0 0) (end (refused ++ (49 ∷ [])))
    -- 8 "directly after 1", before missing map bytes: `refused 8`, with no position; a bad rounding code comes before it
    ∷ row (head 9 8 0 2 0) (end (refused ++ (56 ∷ [])))
    ∷ row (head 9 9 0 2 1 ++ to_le 9 0) (end (refused ++ (56 ∷ [])))
    ∷ row (head 9 10 0 2 0) (end (refused ++ (56 ∷ [])))
    ∷ row (head 9 8 5 2 0) (end (refused ++ (49 ∷ [])))
    -- "missing map bytes `refused 2`"
    ∷ row (head 9 4 0 0 1 ++ to_le 8 0) (end (refused ++ (50 ∷ [])))
    -- "a broken last element .. `refused 3`"
    ∷ row (head 9 4 0 0 0 ++ to_le 9 0) (end (refused ++ (51 ∷ [])))
    -- an empty chunk: `ok 0`
    ∷ row (head 9 4 0 0 0) (end (ok ++ (48 ∷ [])))
    -- a map of 0 to 0x1234, u8 to u16: `ok 2`, `1234`, `00ab`
    ∷ row (head 4 5 0 0 1 ++ (0 ∷ []) ++ to_le 2 0x1234 ++ (0 ∷ 0xab ∷ [])) (end (ok ++ (50 ∷ [])) ++ end (49 ∷ 50 ∷ 51 ∷ 52 ∷ []) ++ end (48 ∷ 48 ∷ 97 ∷ 98 ∷ []))
    -- 65519 and 65520 u16 to f16: `refused 7 at 1`, `7bff`
    ∷ row (head 5 10 0 0 0 ++ to_le 2 65519 ++ to_le 2 65520) (end (refused ++ (55 ∷ []) ++ at ++ (49 ∷ [])) ++ end (55 ∷ 98 ∷ 102 ∷ 102 ∷ []))
    ∷ []

pub samples_hold : map (λ (s : Sample). listing_of s.input) samples ≡ map (λ (s : Sample). s.wanted) samples
unfolding samples listing_of refusal_of answer_of destination_of call_of settings_of outcome_at outcome_of beyond nan_pattern pattern_of value_of lowest highest pick bits_mag size
samples_hold = refl

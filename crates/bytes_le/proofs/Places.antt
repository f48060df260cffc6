-- What stands at a position of a chunk, after bytes were put in front, and behind a place that was written.
use mathlib.Core.Path.{◌≡◌, sym, ap, ap₂, ◌∙◌}
use mathlib.Core.List.{List, ◌++◌, append_assoc}
use Prim.Native.Nat.{ℕ, suc, ◌+◌, ◌*◌, ◌%◌, ◌^◌, ◌≤◌}
use native.Mathlib.Nat.{zero-mul}
use native.Mathlib.Omega.{arith}
use lib.ListN.{length, take, drop, length-append}
use lib.Seq.{take_at, drop_at, drop-append-add, length-take-le}
use Rattle.bytes_le.specs.Bytes.{from_le, to_le, pattern_at, put}
use Rattle.bytes_le.proofs.Sums.{length-to_le, from_le-to_le}

pub first_place : (w b : ℕ) (rest : List ℕ) → pattern_at w (to_le w b ++ rest) 0 ≡ b % 256 ^ w
first_place w b rest = ap (λ (z : ℕ). from_le (take w (drop z (to_le w b ++ rest)))) (zero-mul w) ∙ ap from_le (take_at (to_le w b) rest w (length-to_le w b)) ∙ from_le-to_le w b

pub next_place : (w b i : ℕ) (rest : List ℕ) → pattern_at w (to_le w b ++ rest) (suc i) ≡ pattern_at w rest i
next_place w b i rest = ap (λ (z : List ℕ). from_le (take w z)) (ap (λ (z : ℕ). drop z (to_le w b ++ rest)) (shift w b i) ∙ drop-append-add (to_le w b) rest (i * w))
  where
    shift : (w b i : ℕ) → suc i * w ≡ length (to_le w b) + i * w
    shift w b i = omega (arith, length-to_le w b)

-- what is put at a place leaves all behind it
pub behind_put : (d : List ℕ) (a w v : ℕ) → a ≤ length d → drop (a + w) (put d a w v) ≡ drop (a + w) d
behind_put d a w v h = ap (drop (a + w)) (sym (append_assoc (take a d) (to_le w v) (drop (a + w) d))) ∙ drop_at (take a d ++ to_le w v) (drop (a + w) d) (a + w) long
  where
    long : length (take a d ++ to_le w v) ≡ a + w
    long = length-append (take a d) (to_le w v) ∙ ap₂ (λ (x y : ℕ). x + y) (length-take-le a d h) (length-to_le w v)

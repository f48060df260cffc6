-- The widths of the kinds, and the places of the elements of a chunk.
use mathlib.Core.Path.{◌≡◌}
use mathlib.Core.List.{List}
use mathlib.Core.Logic.{⊎_elim}
use Prim.Native.Nat.{ℕ, ◌+◌, ◌*◌, ◌≤◌, ◌<◌}
use native.Mathlib.Nat.{mul-le-mul_right}
use native.Mathlib.Omega.{arith}
use lib.ListN.{length}
use Rattle.bytes_le.specs.Bytes.{Place, Width}

-- what each of the four gives
by_width : {w : ℕ} (P : Type 0) → (w ≡ 1 → P) → (w ≡ 2 → P) → (w ≡ 4 → P) → (w ≡ 8 → P) → Width w → P
by_width P a b c d = ⊎_elim a (⊎_elim b (⊎_elim c d))

-- a width that is none of 1, 2 and 4
pub last_width : {w : ℕ} → Width w → (w ≡ 1 → ⊥) → (w ≡ 2 → ⊥) → (w ≡ 4 → ⊥) → w ≡ 8
last_width {w} s a b c = by_width (w ≡ 8) (λ e. absurd (a e)) (λ e. absurd (b e)) (λ e. absurd (c e)) (λ e. e) s

pub positive_width : {w : ℕ} → Width w → 0 < w
positive_width {w} = by_width (0 < w) (λ e. omega arith) (λ e. omega arith) (λ e. omega arith) (λ e. omega arith)

pub width_most : {w : ℕ} → Width w → w ≤ 8
width_most {w} = by_width (w ≤ 8) (λ e. omega arith) (λ e. omega arith) (λ e. omega arith) (λ e. omega arith)

-- ---- the element at i of n lies within the chunk
pub element_within : (w n i : ℕ) {l : ℕ} → n * w ≤ l → i < n → i * w + w ≤ l
element_within w n i whole h = omega (arith, mul-le-mul_right w h)

pub element_place : (s : List ℕ) (w n i : ℕ) → Width w → n * w ≤ length s → i < n → Place s (i * w) w
element_place s w n i width whole h = record { width = width; within = element_within w n i whole h }

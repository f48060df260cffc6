-- To be believed: demand 3 as one claim about a call: its answer r, and res, the number at each place of the destination after it.
use Rattle.std.specs.Prelude.{◌≡◌, true, false, not, ℕ, ◌*◌, ◌^◌, T, ℤ, pos, ◌+ℤ◌, ◌*ℤ◌, ◌≤ℤ◌, ◌<ℤ◌}
use mathlib.Core.List.{Memᴰ}
use Rattle.grid.specs.Pick.{IsPick}
use Rattle.patterns.specs.Kind.{Kind, integer, binary, grid_of, bits, lowest, highest, InRange}
use Rattle.patterns.specs.Value.{Value, nan, inf, num, value_of}
use Rattle.codes.specs.declared.OutOfRangeMode.{OutOfRangeMode}
use Rattle.codes.specs.declared.OutOfRangeMode.TheVariants.{None, Clamp, Wrap}
use Rattle.cast_spec.specs.Element.{Entry, Settings}
use Rattle.cast_spec.specs.Chunk.{Call, Reached}
use Rattle.answers.specs.Answer.{number_of, names_position, position_of}
use Rattle.answers.specs.Outcome.{Answer}

-- ---- "any element that the call reaches, finite and matched by no map entry": all by the inputs alone

-- the element at i has the number x: "An entry matches a finite element when key and element are equal as numbers"
pub record Taken (c : Call) (i : ℕ) (x : ℤ) : Type 0 where
  pub reached : Reached c i
  pub finite : value_of c.settings.from (c.element i) ≡ num x
  pub unmatched : (e : Entry) → Memᴰ e c.settings.entries → value_of c.settings.from e.key ≡ num x → ⊥

-- what the settings pick for x
abbrev pub Pick : Settings → ℤ → ℤ → Type 0
Pick S x y = IsPick (grid_of S.to) S.rule x y

-- ---- refused, kept, and handled as the range choice says

-- "the answer is 6 (integer target) or 7 (float target) with this element's position"
abbrev pub RefusedBy : ℕ → Answer → ℕ → Type 0
RefusedBy number r i = (number_of r ≡ number) × (position_of r ≡ i)

-- no refusal names the position
abbrev pub Kept : Answer → ℕ → Type 0
Kept r i = T (names_position (number_of r)) → position_of r ≡ i → ⊥

-- v is the "one number congruent to the pick modulo 2^N" of an integer kind
pub record Congruent (k : Kind) (v : Value) (y : ℤ) : Type 0 where
  pub z : ℤ
  pub value : v ≡ num z
  pub in_range : InRange k z
  pub turns : ℤ
  pub apart : y ≡ z +ℤ turns *ℤ pos (2 ^ bits k * 2 ^ 1074)

-- a pick y past the range, of the element x at i, whose place holds v. "Settings with range code 2 and a float target shall be turned down": under them
-- no element is reached.
abbrev pub Handled : Kind → OutOfRangeMode → Answer → Value → ℕ → ℤ → ℤ → Type 0
Handled (integer s n) None r v i x y = RefusedBy 6 r i
Handled (integer s n) Clamp r v i x y = Kept r i × (y <ℤ lowest (integer s n) → v ≡ num (lowest (integer s n))) × (highest (integer s n) <ℤ y → v ≡ num (highest (integer s n)))
Handled (integer s n) Wrap r v i x y = Kept r i × Congruent (integer s n) v y
Handled (binary p w s) None r v i x y = RefusedBy 7 r i
Handled (binary p w s) Clamp r v i x y = Kept r i × (x <ℤ pos 0 → v ≡ inf true) × (pos 0 <ℤ x → v ≡ inf false)
Handled (binary p w s) Wrap r v i x y = ⊥

-- "The pick is the result unless it lies past the target's finite range; exactly then is the element refused, clamped or wrapped"
pub record Rounded (S : Settings) (r : Answer) (v : Value) (i : ℕ) (x : ℤ) : Type 0 where
  pub y : ℤ
  pub pick : Pick S x y
  pub result : InRange S.to y → Kept r i × (v ≡ num y)
  pub past : (InRange S.to y → ⊥) → Handled S.to S.range r v i x y

-- ---- the order

abbrev pub Wraps : Kind → OutOfRangeMode → Type 0
Wraps (integer s n) None = ⊥
Wraps (integer s n) Clamp = ⊥
Wraps (integer s n) Wrap = Unit {0}
Wraps (binary p w s) m = ⊥

pub record Wrapped (S : Settings) (x : ℤ) : Type 0 where
  pub wraps : Wraps S.to S.range
  pub past : (y : ℤ) → Pick S x y → InRange S.to y → ⊥

-- "either zero is the number 0, and an infinity lies beyond all numbers on its side"
infix 50 ◌≤ᵉ◌
abbrev pub ◌≤ᵉ◌ : Value → Value → Type 0
nan ≤ᵉ w = ⊥
inf true ≤ᵉ nan = ⊥
inf true ≤ᵉ inf b = Unit {0}
inf true ≤ᵉ num y = Unit {0}
inf false ≤ᵉ nan = ⊥
inf false ≤ᵉ inf b = T (not b)
inf false ≤ᵉ num y = ⊥
num x ≤ᵉ nan = ⊥
num x ≤ᵉ inf b = T (not b)
num x ≤ᵉ num y = x ≤ℤ y

-- "converted in one chunk, neither of them wrapped"
abbrev pub Compared : Call → Answer → ℕ → ℤ → Type 0
Compared c r i x = Taken c i x × Kept r i × (Wrapped c.settings x → ⊥)

pub record Demand3 (c : Call) (r : Answer) (res : ℕ → Value) : Type 0 where
  pub each : (i : ℕ) (x : ℤ) → Taken c i x → Rounded c.settings r (res i) i x
  pub order : (i j : ℕ) (x x' : ℤ) → Compared c r i x → Compared c r j x' → x ≤ℤ x' → res i ≤ᵉ res j

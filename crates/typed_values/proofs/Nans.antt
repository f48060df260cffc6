-- A float's pattern that stands for a NaN is the quiet one; and a pattern that stands for no NaN, or is a float's own, is the one that the f32 read from it has.
use mathlib.Core.Bool.{not}
use mathlib.Core.Path.{◌≡◌, refl, sym, ap, ◌∙◌}
use Prim.Native.Nat.{ℕ, ◌^◌, ◌<◌}
use native.Mathlib.Omega.{arith}
use lib.Ieee.Bits.{to_bits-of_bits}
use lib.Ieee as F
use lib.Ieee.{Float, Format, binary32, binary64, is_nan, of_bits, to_bits}
use lib.Dec.{T, lit<}
use Rattle.patterns.proofs.Ieee.{Agrees, kind_for, agree}
use Rattle.patterns.specs.Kind.{f32, f64}
use Rattle.patterns.specs.Pattern.{nan_pattern}
use Rattle.patterns.specs.Value.{Value, nan, value_of}
use Rattle.typed_values.specs.Bits.{float_bits, f32_bits}
use Rattle.typed_values.proofs.Patterns.{bits_below, bits_back}

-- ---- a pattern's value and the language's float are a NaN alike
nan_agrees : (x : Float) (v : Value) → Agrees x v → v ≡ nan → x ≡ F.nan
nan_agrees F.nan v a e = refl
nan_agrees (F.inf s) v a e = let z : ◌≡◌ {A = ℕ} 0 1 = cc in absurd (omega arith)
nan_agrees (F.fin s m k) v a e = let f = sym e ∙ a.2 in let z : ◌≡◌ {A = ℕ} 0 1 = cc in absurd (omega arith)

no_nan_agrees : (x : Float) (v : Value) → Agrees x v → (v ≡ nan → ⊥) → T (not (is_nan x))
unfolding is_nan
no_nan_agrees F.nan v a f = f a
no_nan_agrees (F.inf s) v a f = tt
no_nan_agrees (F.fin s m k) v a f = tt

-- a float's pattern that stands for a NaN is the quiet one
pub quiet : (f : Format) (x : Float) → value_of (kind_for f) (float_bits f x) ≡ nan → float_bits f x ≡ to_bits f F.nan
quiet f x e = sym (bits_back f x) ∙ ap (to_bits f) (nan_agrees (of_bits f (float_bits f x)) _ (agree f (float_bits f x)) e)

-- ---- the f32 read from the pattern b has the pattern b
abbrev pub Back : ℕ → Type 0
Back b = (to_bits binary32 (of_bits binary32 b) ≡ b) × (b < 2 ^ 32)

pub bits_are_back : (x : Float) → Back (f32_bits x)
bits_are_back x = (bits_back binary32 x, bits_below binary32 x)

-- the quiet NaN of f64 is narrowed to that of f32
pub quiet_kept : Back (nan_pattern f64 24 8 (to_bits binary64 F.nan))
unfolding nan_pattern to_bits of_bits
quiet_kept = (refl, lit< tt)

pub not_nan : (b : ℕ) → b < 2 ^ 32 → (value_of f32 b ≡ nan → ⊥) → Back b
not_nan b h f = (to_bits-of_bits binary32 b h (no_nan_agrees (of_bits binary32 b) (value_of f32 b) (agree binary32 b) f), h)

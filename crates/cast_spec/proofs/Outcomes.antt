-- What a fit says of the outcome that it is of: what is stored, and where nothing is the element is refused.
use mathlib.Core.Path.{◌≡◌}
use Prim.Native.Nat.{ℕ}
use native.Mathlib.Omega.{arith}
use Rattle.counts.specs.declared.Fared.{Fared}
use Rattle.cast_spec.specs.Chunk.{Refuses}
use Rattle.cast_spec.specs.Fit.{fit_of}
use Rattle.answers.specs.Outcome.{Outcome, fit_as, stored_as}
use Rattle.answers.specs.declared.ConversionError.{ConversionError}
use Rattle.answers.specs.declared.ElementRefusal.TheVariants.{FloatOutOfRange, NanOrInf, OutOfRange}
use Rattle.std.specs.Prelude.{Err, Ok}

pub stored_pattern : (o : Outcome) (b : ℕ) (f : Fared) → fit_of o ≡ fit_as b f → o ≡ stored_as b f
stored_pattern (Ok s) b f e = cc
stored_pattern (Err (NanOrInf v)) b f e = let z : ◌≡◌ {A = ℕ} 0 1 = cc in absurd (omega arith)
stored_pattern (Err (OutOfRange v lo hi)) b f e = let z : ◌≡◌ {A = ℕ} 0 1 = cc in absurd (omega arith)
stored_pattern (Err (FloatOutOfRange v lo hi)) b f e = let z : ◌≡◌ {A = ℕ} 0 1 = cc in absurd (omega arith)

-- nothing is stored
pub refuses : (o : Outcome) (x : ConversionError) → Err x ≡ fit_of o → Refuses o
refuses (Ok s) x e = let z : ◌≡◌ {A = ℕ} 0 1 = cc in absurd (omega arith)
refuses (Err (NanOrInf v)) x e = tt
refuses (Err (OutOfRange v lo hi)) x e = tt
refuses (Err (FloatOutOfRange v lo hi)) x e = tt

-- A NaN, or the float of the bits.
use Rattle.std.proofs.Common.{◌≡◌, ℕ, sym, ap, ◌∙◌, Fits, w64}
use native.Mathlib.Nat.{mod-eq_of_lt}
use lib.Ieee.{binary64, div, of_bits}
use Rattle.typed_patterns.specs.Values.{f64_of}
use Rattle.typed_patterns.proofs.NanPatterns.{nan_pattern_lem, no_nan_pattern}
use Rattle.typed_patterns.proofs.F64FromPattern.from_pattern.Goals as goal

-- a u64 is its own lowest 64 bits
all_bits : {b : ℕ} → Fits w64 b → of_bits binary64 b ≡ f64_of b
all_bits h = ap (of_bits binary64) (sym (mod-eq_of_lt h.fits))

pub returns-then-b-gt9218868437227405312 : goal.returns-then-b-gt9218868437227405312
unfolding div of_bits
returns-then-b-gt9218868437227405312 c = nan_pattern_lem binary64 c.args.b c.if-b-gt9218868437227405312.true ∙ all_bits c.ranges.b

pub float_from_bits-result : goal.float_from_bits-result
float_from_bits-result c = no_nan_pattern binary64 c.args.b c.if-b-gt9218868437227405312.false

pub returns : goal.returns
returns c = all_bits c.ranges.b

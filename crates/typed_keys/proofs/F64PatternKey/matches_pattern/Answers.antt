-- The law of float keys, at each outcome of the two tests.
use Rattle.std.proofs.Common.{◌%◌, ◌^◌, refl, sym, ◌∙◌}
use lib.Ieee.{binary64}
use Rattle.typed_keys.proofs.FloatKeys.{key_matches}
use Rattle.typed_keys.proofs.F64PatternKey.matches_pattern.Goals as goal

pub returns-then-double-self : goal.returns-then-double-self
returns-then-double-self c = let a = c.args in c.if-double-self.true ∙ key_matches binary64 a.self c.from_pattern-double.result (a.x % 2 ^ 64) c.well_formed.0.1 c.from_pattern-double.ensures c.if-double-self.true refl

pub returns-then-is_nan : goal.returns-then-is_nan
returns-then-is_nan c = let a = c.args in c.is_nan-then-is_nan.ensures.value ∙ key_matches binary64 a.self c.from_pattern-double.result (a.x % 2 ^ 64) c.well_formed.0.1 c.from_pattern-double.ensures c.if-double-self.false (sym c.if-is_nan.ensures.value)

pub returns-else-is_nan : goal.returns-else-is_nan
returns-else-is_nan c = let a = c.args in c.is_nan.ensures.value ∙ sym c.if-is_nan.ensures.value ∙ key_matches binary64 a.self c.from_pattern-double.result (a.x % 2 ^ 64) c.well_formed.0.1 c.from_pattern-double.ensures c.if-double-self.false (sym c.if-is_nan.ensures.value)

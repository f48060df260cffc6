-- Integers are equal where their patterns are.
use Rattle.std.proofs.Common.{ℕ, true, sym, ap, ◌∙◌}
use native.Mathlib.Nat.{mod-eq_of_lt}
use lib.Dec.{eqb, lit<}
use mir.Syntax.{w64}
use mir.ValLaws.{to_z-of_z}
use Rattle.kinds.specs.Table.{kind_of}
use Rattle.patterns.specs.Value.{value_of}
use Rattle.cast_spec.specs.Element.{matches}
use Rattle.mapping.proofs.Integers.{integers_match}
use Rattle.typed_values.proofs.Fits.{i64_fits}
use Rattle.typed_values.specs.Bits.{i64_bits}
use Rattle.typed_keys.proofs.I64PatternKey.matches_pattern.Goals as goal

pub returns : goal.returns
returns c =
    let a = c.args in
    ap (eqb a.x) (c.pattern.ensures ∙ ap i64_bits (to_z-of_z w64 a.self c.ranges.self))
    ∙ integers_match true 64 a.x (i64_bits a.self) (lit< tt) c.ranges.x.fits (i64_fits a.self)
    ∙ ap (λ (n : ℕ). matches (value_of (kind_of 3) n) (value_of (kind_of 3) (i64_bits a.self))) (sym (mod-eq_of_lt c.ranges.x.fits))

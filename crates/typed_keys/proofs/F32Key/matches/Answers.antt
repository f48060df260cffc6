-- An element's pattern is one of its kind, so it is the number of its lowest bits.
use Rattle.std.proofs.Common.{ℕ, ◌%◌, ◌^◌, ap, ◌∙◌}
use native.Mathlib.Nat.{mod-eq_of_lt}
use Rattle.patterns.specs.Kind.{f32}
use Rattle.patterns.specs.Value.{value_of}
use Rattle.cast_spec.specs.Element.{matches}
use Rattle.typed_values.specs.Bits.{f32_bits}
use Rattle.typed_values.proofs.Fits.{f32_fits}
use Rattle.typed_keys.proofs.F32Key.matches.Goals as goal

pub returns : goal.returns
returns c =
    let a = c.args in
    c.matches_pattern.ensures ∙ ap (λ (n : ℕ). matches (value_of f32 n) (value_of f32 (f32_bits a.key))) (ap (λ (n : ℕ). n % 2 ^ 32) c.pattern.ensures ∙ mod-eq_of_lt (f32_fits a.self))

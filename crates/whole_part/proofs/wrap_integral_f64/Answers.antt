-- A magnitude modulo 2^64 has the same lowest bits.
use Rattle.std.proofs.Common.{ap, subst, sym, ◌∙◌}
use Rattle.grid.specs.Round.{signed}
use Rattle.patterns.specs.Pattern.{low_bits}
use Rattle.floats.specs.Form.{CanonicalClass}
use Rattle.floats.specs.declared.Float.{Float}
use Rattle.floats.proofs.Values.{f64_formed}
use Rattle.whole_numbers.specs.declared.Whole.{Whole}
use Rattle.whole_part.proofs.WholeParts.{wrapped_bits}
use Rattle.whole_part.proofs.wrap_integral_f64.Goals as goal

pub round_to_whole-whole-requires : goal.round_to_whole-whole-requires
round_to_whole-whole-requires c = subst CanonicalClass (sym (ap (λ (f : Float). f.class) c.read-x.ensures) ∙ c.in-Finite.is) (f64_formed c.args.b c.ranges.b.fits).canonical

pub returns : goal.returns
returns c =
    let a = c.args in
    let x = c.read-x in
    c.wrap_magnitude.ensures
    ∙ ap (λ (w : Whole). low_bits a.bits (signed x.result.negative w.magnitude)) c.round_to_whole-whole.ensures
    ∙ wrapped_bits a.bits a.b x.result x.ensures c.in-Finite.magnitude c.in-Finite.is c.requires.1

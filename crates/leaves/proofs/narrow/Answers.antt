-- What was read is converted, so its form is canonical.
use Rattle.std.proofs.Common.{subst, sym}
use Rattle.floats.specs.Form.{CanonicalClass}
use Rattle.floats.specs.declared.Float.{Float}
use Rattle.floats.proofs.Values.{f64_formed}
use Rattle.leaves.proofs.narrow.Goals as goal

pub convert_float_to_float-requires : goal.convert_float_to_float-requires
convert_float_to_float-requires g c = (subst (λ (x : Float). CanonicalClass x.class) (sym c.read-x.ensures) (f64_formed c.args.b c.ranges.b.fits).canonical, c.requires)

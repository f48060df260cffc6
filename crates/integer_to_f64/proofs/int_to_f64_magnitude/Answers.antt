-- A float that is exactly the pick has the bits of the pick, and lies where it does.
use Rattle.std.proofs.Common.{ℕ, false, ap₂}
use Rattle.grid.specs.declared.Rounded.{Rounded}
use Rattle.grid.specs.declared.Ternary.{Ternary}
use Rattle.patterns.proofs.IeeeBits.{whole_bits, valued_no_nan}
use Rattle.integer_to_f64.proofs.int_to_f64_magnitude.Goals as goal

pub float_to_bits-result : goal.float_to_bits-result
float_to_bits-result c = let x = c.round_int_to_precision-rounded in valued_no_nan x.result.magnitude false _ 1 x.ensures.0.value

pub returns : goal.returns
returns c = let x = c.round_int_to_precision-rounded in ap₂ {C = Rounded} (λ (b : ℕ) (t : Ternary). record { bits = b; ternary = t }) (whole_bits x.result.magnitude _ x.ensures.0.value) x.ensures.1

-- Each arm has the form of the fields.
use Rattle.std.proofs.Common.{◌∙◌, arith}
use Rattle.floats.proofs.Widenings.{widened_subnormal, widened_normal, widened_special}
use Rattle.floats.proofs.read_widened.Goals as goal

pub returns-in-0 : goal.returns-in-0
returns-in-0 c p w s b format is = c.finite.ensures ∙ widened_subnormal p w s b format c.args.f is c.in-0.is c.normalize-x.result c.normalize-x.ensures

pub returns-in-1-to-254 : goal.returns-in-1-to-254
returns-in-1-to-254 c p w s b format is = c.finite-in-1-to-254.ensures ∙ widened_normal p w s b format c.args.f is (omega arith) (omega arith)

pub returns-in-255-to-18446744073709551615 : goal.returns-in-255-to-18446744073709551615
returns-in-255-to-18446744073709551615 c p w s b format is = c.infinite_or_nan.ensures ∙ widened_special p w s b format c.args.f is (omega arith)

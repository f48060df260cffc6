-- The mask is all ones where the condition holds, and else 0.
use Rattle.std.proofs.Common.{◌∙◌, arith}
use Rattle.select.proofs.Masked.{masked}
use Rattle.select.proofs.choose.Goals as goal

pub returns : goal.returns
returns c =
    let more = c.wrapping_sub_u64-more in
    let mask = c.wrapping_sub_u64-mask in
    let a = c.args in
    c.wrapping_add_u64.ensures.value ∙ masked a.otherwise a.then more.result mask.result c.ranges.otherwise.fits (omega arith) (omega arith) more.ensures.value a.condition mask.ensures.value

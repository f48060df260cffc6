-- The widths are those of the rows, and the entry count is two bytes.
use Rattle.std.proofs.Common.{arith}
use Rattle.listing_input.proofs.Parts.{keys_small, targets_small}
use Rattle.listing_input.proofs.layout_of.Goals as goal

pub overflow_mul-targets : goal.overflow_mul-targets
overflow_mul-targets c =
    let x = c.row_of-sw in
    let e = c.read_le-entries in
    record { fits = omega (arith, keys_small c.args.input.now c.requires x.result c.row_of-dw.result e.result x.ensures c.row_of-dw.ensures e.ensures.pattern e.ensures.fits) }

pub overflow_add-targets : goal.overflow_add-targets
overflow_add-targets c =
    let x = c.row_of-sw in
    let e = c.read_le-entries in
    record { fits = omega (arith, keys_small c.args.input.now c.requires x.result c.row_of-dw.result e.result x.ensures c.row_of-dw.ensures e.ensures.pattern e.ensures.fits) }

pub overflow_mul-result : goal.overflow_mul-result
overflow_mul-result c =
    let x = c.row_of-sw in
    let e = c.read_le-entries in
    record { fits = omega (arith, targets_small c.args.input.now c.requires x.result c.row_of-dw.result e.result x.ensures c.row_of-dw.ensures e.ensures.pattern e.ensures.fits) }

pub overflow_add-result : goal.overflow_add-result
overflow_add-result c =
    let x = c.row_of-sw in
    let e = c.read_le-entries in
    let keys = keys_small c.args.input.now c.requires x.result c.row_of-dw.result e.result x.ensures c.row_of-dw.ensures e.ensures.pattern e.ensures.fits in
    record { fits = omega (arith, keys, targets_small c.args.input.now c.requires x.result c.row_of-dw.result e.result x.ensures c.row_of-dw.ensures e.ensures.pattern e.ensures.fits) }

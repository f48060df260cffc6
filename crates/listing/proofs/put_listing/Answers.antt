-- A refusal's line, or the call on the parts of an input that none meets.
use Rattle.std.proofs.Common.{sym, ◌∙◌, arith}
use native.Mathlib.Nat.{le_trans}
use Rattle.text.proofs.Writes.{wrote_as}
use Rattle.listing_input.proofs.Exits.{six, taken_head, refusal_small}
use Rattle.listing.proofs.Exits.{accepted_number, error_number, elements_within, targets_first, call_asks, call_listed, refusal_listed}
use Rattle.listing.proofs.put_listing.Goals as goal

pub put_refused-requires : goal.put_refused-requires
put_refused-requires c = (refusal_small c.args.input.now c.number.result (c.number.ensures ∙ c.refusal-checked.ensures), omega arith, omega (arith, c.requires.1))

pub returns-then-is_err : goal.returns-then-is_err
returns-then-is_err c = wrote_as (refusal_listed c.args.input.now c.number.result (c.number.ensures ∙ c.refusal-checked.ensures) (λ z. error_number c.refusal-checked.result c.if-is_err.ensures.value (sym c.number.ensures ∙ z))) c.put_refused.ensures

pub layout_of-l-requires : goal.layout_of-l-requires
layout_of-l-requires c = taken_head c.args.input.now (sym c.refusal-checked.ensures ∙ accepted_number c.refusal-checked.result c.if-is_err.ensures.value)

pub slice_bounds-put_call-count : goal.slice_bounds-put_call-count
slice_bounds-put_call-count c = elements_within c.args.input.now (sym c.refusal-checked.ensures ∙ accepted_number c.refusal-checked.result c.if-is_err.ensures.value) c.layout_of-l.result c.layout_of-l.ensures

pub slice_bounds-put_call-start : goal.slice_bounds-put_call-start
slice_bounds-put_call-start c = elements_within c.args.input.now (sym c.refusal-checked.ensures ∙ accepted_number c.refusal-checked.result c.if-is_err.ensures.value) c.layout_of-l.result c.layout_of-l.ensures

pub slice_bounds-put_call-end-2 : goal.slice_bounds-put_call-end-2
slice_bounds-put_call-end-2 c =
    let none = sym c.refusal-checked.ensures ∙ accepted_number c.refusal-checked.result c.if-is_err.ensures.value in
    let l = c.layout_of-l in
    le_trans (targets_first c.args.input.now none l.result l.ensures) (elements_within c.args.input.now none l.result l.ensures)

pub slice_bounds-put_call-end-3 : goal.slice_bounds-put_call-end-3
slice_bounds-put_call-end-3 c = elements_within c.args.input.now (sym c.refusal-checked.ensures ∙ accepted_number c.refusal-checked.result c.if-is_err.ensures.value) c.layout_of-l.result c.layout_of-l.ensures

pub bounds-input-0 : goal.bounds-input-0
bounds-input-0 c = omega (arith, six c.args.input.now (sym c.refusal-checked.ensures ∙ accepted_number c.refusal-checked.result c.if-is_err.ensures.value))

pub bounds-input-1 : goal.bounds-input-1
bounds-input-1 c = omega (arith, six c.args.input.now (sym c.refusal-checked.ensures ∙ accepted_number c.refusal-checked.result c.if-is_err.ensures.value))

pub bounds-input-2 : goal.bounds-input-2
bounds-input-2 c = omega (arith, six c.args.input.now (sym c.refusal-checked.ensures ∙ accepted_number c.refusal-checked.result c.if-is_err.ensures.value))

pub bounds-input-3 : goal.bounds-input-3
bounds-input-3 c = omega (arith, six c.args.input.now (sym c.refusal-checked.ensures ∙ accepted_number c.refusal-checked.result c.if-is_err.ensures.value))

pub put_call-requires : goal.put_call-requires
put_call-requires c = call_asks c.args.input.now (sym c.refusal-checked.ensures ∙ accepted_number c.refusal-checked.result c.if-is_err.ensures.value) c.layout_of-l.result c.layout_of-l.ensures c.args.work.now c.args.out.now c.requires.0 c.requires.1

pub returns : goal.returns
returns c = wrote_as (call_listed c.args.input.now (sym c.refusal-checked.ensures ∙ accepted_number c.refusal-checked.result c.if-is_err.ensures.value) c.layout_of-l.result c.layout_of-l.ensures) c.put_call.ensures

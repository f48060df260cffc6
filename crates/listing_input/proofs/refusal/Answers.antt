-- Each way out is a case of the definition.
use Rattle.std.proofs.Common.{not, sym, ap}
use Rattle.listing_input.specs.declared.Layout.{Layout}
use Rattle.listing_input.proofs.Exits.{short, unlisted, barred, map_past, map_missing, longer, none}
use Rattle.listing_input.proofs.refusal.Goals as goal

pub returns-then-input-lt6 : goal.returns-then-input-lt6
returns-then-input-lt6 c = short c.args.input.now c.if-input-lt6.true

pub returns-then-not-codes_listed : goal.returns-then-not-codes_listed
returns-then-not-codes_listed c = unlisted c.args.input.now c.if-input-lt6.false (sym c.if-not-codes_listed.ensures)

pub returns-then-wrap_barred : goal.returns-then-wrap_barred
returns-then-wrap_barred c = barred c.args.input.now c.if-input-lt6.false (sym c.if-not-codes_listed.ensures) (ap not (sym c.if-wrap_barred.ensures))

pub returns-then-map_end-gt8192 : goal.returns-then-map_end-gt8192
returns-then-map_end-gt8192 c = map_past c.args.input.now c.if-input-lt6.false (sym c.if-not-codes_listed.ensures) (ap not (sym c.if-wrap_barred.ensures)) c.layout_of-map_end.result.elements (ap (λ (l : Layout). l.elements) c.layout_of-map_end.ensures) c.if-map_end-gt8192.true

pub returns-then-input-map_end : goal.returns-then-input-map_end
returns-then-input-map_end c = map_missing c.args.input.now c.if-input-lt6.false (sym c.if-not-codes_listed.ensures) (ap not (sym c.if-wrap_barred.ensures)) c.layout_of-map_end.result.elements (ap (λ (l : Layout). l.elements) c.layout_of-map_end.ensures) c.if-map_end-gt8192.false c.if-input-map_end.true

pub returns-then-input-gt8192 : goal.returns-then-input-gt8192
returns-then-input-gt8192 c = longer c.args.input.now c.if-input-lt6.false (sym c.if-not-codes_listed.ensures) (ap not (sym c.if-wrap_barred.ensures)) c.layout_of-map_end.result.elements (ap (λ (l : Layout). l.elements) c.layout_of-map_end.ensures) c.if-map_end-gt8192.false c.if-input-map_end.false c.if-input-gt8192.true

pub returns : goal.returns
returns c = none c.args.input.now c.if-input-lt6.false (sym c.if-not-codes_listed.ensures) (ap not (sym c.if-wrap_barred.ensures)) c.layout_of-map_end.result.elements (ap (λ (l : Layout). l.elements) c.layout_of-map_end.ensures) c.if-map_end-gt8192.false c.if-input-map_end.false c.if-input-gt8192.false

-- The first entry whose key matches is the one that the definitions find.
use Rattle.std.proofs.Common.{rules, ◌≡◌, ap, ◌∙◌}
use Rattle.std.specs.List.{find}
use Rattle.std.specs.Prelude.{None, Some}
use Rattle.std.proofs.lemmas.Iterator.{YieldsList-from_slice}
use Rattle.std.proofs.lemmas.Iterator.Search.{find_from_yields_List}
use Rattle.patterns.specs.Value.{value_of}
use Rattle.kinds.specs.Table.{kind_of}
use Rattle.typed_entries.specs.Entries.{entry_of}
use Rattle.typed_entries.proofs.Lookups.{test, target_of, first_found}
use Rattle.typed_entries.proofs.lookup.Goals as goal

pub returns : goal.returns
returns g c =
    let k = kind_of g.K.Number.CODE in
    let v = value_of k (g.K.Number.pattern c.args.x) in
    let of = entry_of g.K.Number.pattern g.T.Number.pattern g.E.MapEntry.key g.E.MapEntry.target in
    let e : Some c.in_ok-first.first.now ≡ find (test of k v) c.args.entries.now = find_from_yields_List (test of k v) c.find.new.self _ (Some c.in_ok-first.first) c.in_ok-first.ensures.ran (YieldsList-from_slice c.args.entries.now cc) (λ x b q h. search rules) in
    ap Some (c.pattern.ensures ∙ ap g.T.Number.pattern c.target.ensures) ∙ ap (target_of of k v) e ∙ first_found of k v c.args.entries.now

pub returns-in_err-first : goal.returns-in_err-first
returns-in_err-first g c =
    let k = kind_of g.K.Number.CODE in
    let v = value_of k (g.K.Number.pattern c.args.x) in
    let of = entry_of g.K.Number.pattern g.T.Number.pattern g.E.MapEntry.key g.E.MapEntry.target in
    let e : None ≡ find (test of k v) c.args.entries.now = find_from_yields_List (test of k v) _ _ None c.in_err-first.ensures.ran (YieldsList-from_slice c.args.entries.now cc) (λ x b q h. search rules) in
    c.from_residual.ensures ∙ ap (target_of of k v) e ∙ first_found of k v c.args.entries.now

-- What each turn keeps.
use Rattle.std.proofs.Common.{map, length}
use Rattle.patterns.specs.Kind.{width}
use Rattle.kinds.specs.Table.{kind_of}
use Rattle.typed_entries.specs.Entries.{entry_of}
use Rattle.typed.specs.Typed.{bytes_of, typed_inputs}
use Rattle.typed.proofs.Turns.{Inv}
use Rattle.typed.proofs.elements.convert.Given as goal

abbrev pub invariant-loop-i : goal.invariant-loop-i
invariant-loop-i g l =
    let source = g.S.Number.pattern in
    let target = g.T.Number.pattern in
    Inv (typed_inputs g.S.Number.CODE g.T.Number.CODE (map source l.src) (map target l.fn.dst) (map (entry_of source target g.E.MapEntry.key g.E.MapEntry.target) l.entries) l.rounding l.range)
    (width (kind_of g.T.Number.CODE)) (length (map source l.src)) l.i (bytes_of (width (kind_of g.T.Number.CODE)) (map target l.dst)) l.tally

-- What is to be found among the entries that are left is what is to be found among all.
use Rattle.patterns.specs.Kind.{bits}
use Rattle.std.proofs.Common.{◌%◌, ◌^◌}
use Rattle.patterns.specs.Value.{value_of}
use Rattle.kinds.specs.Table.{kind_of}
use Rattle.typed_entries.specs.Entries.{entry_of}
use Rattle.typed_entries.proofs.Lookups.{Same}
use Rattle.typed_entries.proofs.lookup_pattern.Given as goal

abbrev pub invariant-loop-entry : goal.invariant-loop-entry
invariant-loop-entry g l =
    let k = kind_of g.K.Number.CODE in
    Same (entry_of g.K.Number.pattern g.T.Number.pattern g.E.MapEntry.key g.E.MapEntry.target) k (value_of k (l.x % 2 ^ bits k)) l.entries l.entry-index

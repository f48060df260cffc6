-- To be believed: what an exported typed call returns: what the exported chunk call returns, of the bytes that the elements, keys and targets have.
use Rattle.std.specs.Prelude.{List, ℕ}
use Rattle.patterns.specs.Kind.{width}
use Rattle.kinds.specs.Table.{kind_of}
use Rattle.cast_spec.specs.Element.{Entry}
use Rattle.typed.specs.Typed.{typed_inputs, bytes_of}
use Rattle.answer_fields.specs.Returned.{Returned}

-- the patterns of source, destination and entries, the number and the fields that come back, and the destination's patterns at exit
abbrev pub Exported : ℕ → ℕ → List ℕ → List ℕ → List Entry → ℕ → ℕ → ℕ → List ℕ → List ℕ → Type 0
Exported from to src dst es rounding range n fields dst' = Returned (typed_inputs from to src dst es rounding range) n fields (bytes_of (width (kind_of to)) dst')

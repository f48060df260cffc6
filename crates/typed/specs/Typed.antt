-- To be believed: a typed call's inputs as those of the chunk call: the elements' patterns, lowest byte first.
use Rattle.std.specs.Prelude.{List, [], ◌∷◌, ◌++◌, map, ℕ}
use Rattle.bytes_le.specs.Bytes.{to_le}
use Rattle.patterns.specs.Kind.{width}
use Rattle.kinds.specs.Table.{kind_of}
use Rattle.answers.specs.declared.Reply.{Reply}
use Rattle.cast_spec.specs.Element as E
use Rattle.cast_spec.specs.Chunk.{Inputs, inputs}
use Rattle.cast_spec.specs.Contract.{Contract}

-- ---- the bytes of patterns of w bytes each, in their order
abbrev pub bytes_of : ℕ → List ℕ → List ℕ
bytes_of w [] = []
bytes_of w (p ∷ ps) = to_le w p ++ bytes_of w ps

-- the chunk call's inputs that the patterns of source, destination and entries are
abbrev pub typed_inputs : ℕ → ℕ → List ℕ → List ℕ → List E.Entry → ℕ → ℕ → Inputs
typed_inputs from to src dst es rounding range = inputs
    (bytes_of (width (kind_of from)) src)
    (bytes_of (width (kind_of to)) dst)
    (bytes_of (width (kind_of from)) (map (λ (e : E.Entry). e.key) es))
    (bytes_of (width (kind_of to)) (map (λ (e : E.Entry). e.target) es))
    from to rounding range

-- the value of a refusal that concerns a NaN: 0x7ff8000000000000
abbrev pub refused_nan : ℕ
refused_nan = 0x7ff8_0000_0000_0000

-- ---- a typed call's contract is the chunk call's: the answer, the counts and every byte by an equation with the definitions, demands 1 and 3, and what is counted.
-- Free is which pattern a NaN in the destination has, of a stored element and of one that is left as it was: the language has one NaN, which stands
-- here as the quiet one. A refused NaN's value is `refused_nan`.
abbrev pub TypedContract : ℕ → ℕ → List ℕ → List ℕ → List E.Entry → ℕ → ℕ → Reply → List ℕ → Type 0
TypedContract from to src dst es rounding range r dst' = Contract (typed_inputs from to src dst es rounding range) r (bytes_of (width (kind_of to)) dst')

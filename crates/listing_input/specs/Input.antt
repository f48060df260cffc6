-- To be believed: the bytes s that `castlist` reads, by their parts, and what is refused before the call. They are at most 8,193: the last of those
-- tells that there is more.
use Rattle.std.specs.Prelude.{◌&&◌, cond, List, ℕ, ◌+◌, ◌*◌, ◌/◌, ltb, leb, length, get_or, take, drop, replicate}
use Rattle.bytes_le.specs.Bytes.{from_le}
use Rattle.patterns.specs.Kind.{width}
use Rattle.kinds.specs.Table.{kind_of}
use Rattle.cast_spec.specs.Chunk.{Inputs, inputs, codes_listed, wrap_permitted}

-- the chunk call into zeros, as many elements as the source; what stands there before the call shows in no line
abbrev pub chunk_of : List ℕ → List ℕ → List ℕ → ℕ → ℕ → ℕ → ℕ → Inputs
chunk_of source keys targets from to rounding range =
    inputs source (replicate (length source / width (kind_of from) * width (kind_of to)) 0) keys targets from to rounding range

-- ---- "source kind, target kind, rounding, range (a byte each), entry count (16 bits, low byte first), the keys, the targets, then the elements"
module _ (s : List ℕ) where
  -- the widths of a source and of a target element
  abbrev pub source_width : ℕ
  source_width = width (kind_of (get_or s 0 0))

  abbrev pub target_width : ℕ
  target_width = width (kind_of (get_or s 1 0))

  abbrev pub entries : ℕ
  entries = from_le (take 2 (drop 4 s))

  -- the places where the keys and the targets end
  abbrev pub keys_end : ℕ
  keys_end = 6 + entries * source_width

  abbrev pub map_end : ℕ
  map_end = keys_end + entries * target_width

  abbrev pub keys : List ℕ
  keys = take (entries * source_width) (drop 6 s)

  abbrev pub targets : List ℕ
  targets = take (entries * target_width) (drop keys_end s)

  abbrev pub elements : List ℕ
  elements = drop map_end s

  abbrev pub call : Inputs
  call = chunk_of elements keys targets (get_or s 0 0) (get_or s 1 0) (get_or s 2 0) (get_or s 3 0)

-- ---- "Fewer than six bytes prints `refused 1`, missing map bytes `refused 2`, a broken last element or longer input `refused 3`;
-- a bad code comes before these last two. A map reaching past byte 8,192 counts as missing."
-- 8 comes "directly after 1". The number that an input is refused with before its call, or 0. The chunk call refuses a broken last element, as 3.
unfoldable pub refusal_of : List ℕ → ℕ
refusal_of s =
    cond (ltb (length s) 6) 1
    (cond (codes_listed (call s))
    (cond (wrap_permitted (call s))
    (cond (leb (map_end s) 8192 && leb (map_end s) (length s))
    (cond (leb (length s) 8192) 0 3)
    2)
    8)
    1)

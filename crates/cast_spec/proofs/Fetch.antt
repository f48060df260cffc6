-- Every element of every listed kind lies where `bytes_le::fetch` asks, and its bit pattern meets the contract of the fetch.
use mathlib.Core.List.{List}
use Prim.Native.Nat.{ℕ, ◌+◌, ◌*◌, ◌≤◌, ◌<◌}
use native.Mathlib.Omega.{arith}
use lib.ListN.{length}
use Rattle.bytes_le.specs.Bytes.{Place, pattern_at}
use Rattle.bytes_le.specs.Fetch.{Fetched}
use Rattle.bytes_le.proofs.Fetches.{pattern_is_fetched}
use Rattle.bytes_le.proofs.Unique.{AreBytes}
use Rattle.bytes_le.proofs.Widths.{element_place}
use Rattle.patterns.specs.Kind.{width}
use Rattle.kinds.specs.Table.{kind_of}
use Rattle.cast_spec.proofs.Widths.{listed_width}

pub kind_fetched : (code : ℕ) → code < 11 → (s : List ℕ) (i : ℕ) → (i + 1) * width (kind_of code) ≤ length s
    → let w = width (kind_of code) in Place s (i * w) w × (AreBytes s → Fetched s (i * w) w (pattern_at w s i))
kind_fetched code listed s i within =
    let w = width (kind_of code) in
    (element_place s w (i + 1) i (listed_width code listed) within (omega arith), λ bytes. pattern_is_fetched s w i bytes within)

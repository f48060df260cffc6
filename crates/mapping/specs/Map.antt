-- Internal: what the functions over the scalar map ask of their inputs.
use Rattle.std.specs.Prelude.{◌≡◌, List, ℕ, ◌+◌, ◌*◌, ◌^◌, ◌≤◌, ◌<◌, length}
use Rattle.bytes_le.specs.Bytes.{Width}

-- two patterns of a float format of p significant bits and w bits of exponent field
pub record FloatPatterns (a key p w : ℕ) : Type 0 where
  pub two : 2 ≤ p
  pub positive : 0 < w
  pub at_most_64 : w + p ≤ 64
  pub fits : a < 2 ^ (w + p)
  pub key_fits : key < 2 ^ (w + p)

-- "map keys (source kind) and map targets (target kind) are bytes": n keys in sw bytes each, of as many bits as the pattern b, and n targets in dw bytes each
pub record MapBytes (bits b : ℕ) (keys targets : List ℕ) (n sw dw : ℕ) : Type 0 where
  pub fits : b < 2 ^ bits
  pub key_bits : 8 * sw ≡ bits
  pub key_width : Width sw
  pub target_width : Width dw
  pub whole_keys : length keys ≡ n * sw
  pub whole_targets : length targets ≡ n * dw

-- Internal: where the parts of an input start, and what that asks.
use Rattle.std.specs.Prelude.{List, ℕ, ◌≤◌, ◌<◌, length, get_or}
use Rattle.listing_input.specs.declared.Layout.{Layout}
use Rattle.listing_input.specs.Input.{keys_end, map_end}

-- the six bytes are there, and the kinds are listed
pub record HeadIn (s : List ℕ) : Type 0 where
  pub six : 6 ≤ length s
  pub from : get_or s 0 0 < 11
  pub to : get_or s 1 0 < 11

-- where the targets and the elements start
abbrev pub layout_of : List ℕ → Layout
layout_of s = record { targets = keys_end s; elements = map_end s }

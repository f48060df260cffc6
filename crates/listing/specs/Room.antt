-- Internal: what a call of the listing asks.
use Rattle.std.specs.Prelude.{List, ℕ, ◌≤◌, ◌<◌, length}

-- the kinds are listed, and the destination and the report of so many bytes of elements fit
pub record CallFits (source : List ℕ) (from to : ℕ) (work d : List ℕ) : Type 0 where
  pub from_listed : from < 11
  pub to_listed : to < 11
  pub source_fits : length source ≤ 8186
  pub work_fits : 65488 ≤ length work
  pub report_fits : 139180 ≤ length d

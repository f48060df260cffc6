-- The map is handed over as three whole entries, with targets of one byte.
use Rattle.std.proofs.Common.{refl, rules}
use mathlib.Core.Logic.{inl, inr}
use Rattle.kinds.proofs.Constants.{f64_row}
use Rattle.leaves.proofs.float_map.Goals as goal

pub apply_scalar_map_float-requires : goal.apply_scalar_map_float-requires
apply_scalar_map_float-requires g c = (f64_row, record { fits = search rules; key_bits = refl; key_width = inr (inr (inr refl)); target_width = inl refl; whole_keys = search rules; whole_targets = search rules })

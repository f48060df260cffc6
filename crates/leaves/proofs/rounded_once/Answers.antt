-- f32 and f16 are rows of the table.
use Rattle.kinds.proofs.Constants.{f16_row, f32_row}
use Rattle.leaves.proofs.rounded_once.Goals as goal

pub all_narrowed-requires : goal.all_narrowed-requires
all_narrowed-requires g c = f32_row

pub all_narrowed-requires-2 : goal.all_narrowed-requires-2
all_narrowed-requires-2 g c = f16_row

-- The table is the rule's eleven rows, which antt computes at once.
use Rattle.std.proofs.Common.{ℕ, refl}
use lib.Ieee.{size}
use Rattle.grid.specs.Round.{pick}
use Rattle.patterns.specs.Float.{bits_mag}
use Rattle.patterns.specs.Value.{value_of}
use Rattle.patterns.specs.Pattern.{pattern_of}
use Rattle.kinds.specs.Table.{kind_of}
use Rattle.kinds.specs.Row.{format_of, row_of}
use Rattle.kinds.specs.declared.KindRow.{KindRow}
use Rattle.kinds.proofs.Table.{row}
use Rattle.kinds.proofs.row_of.Goals as goal

abbrev rule : ℕ → KindRow
rule code = row_of (kind_of code)

pub returns : goal.returns
unfolding format_of value_of pattern_of pick bits_mag size
returns c = row rule 11 _ _ refl c.args.code c.requires

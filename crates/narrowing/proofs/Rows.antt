-- The float rows but f64's are formats narrower than f64.
use mathlib.Core.Path.{◌≡◌, refl}
use lib.Dec.{lit<, lit≤}
use Rattle.kinds.specs.Row.{FloatRow}
use Rattle.kinds.specs.declared.FloatFormat.{FloatFormat}
use Rattle.kinds.proofs.FloatRows.{by_row}
use Rattle.float_range.specs.Range.{FormatBits}
use Rattle.narrowing.specs.Format.{Narrower}

pub row_narrower : (f : FloatFormat) → FloatRow f → (f.precision ≡ 53 → ⊥) → Narrower f.precision f.spacing × FormatBits f.precision f.exponent_bits
row_narrower = by_row (λ (f : FloatFormat). (f.precision ≡ 53 → ⊥) → Narrower f.precision f.spacing × FormatBits f.precision f.exponent_bits)
    (λ _. (record { two = lit≤ tt; fewer = lit< tt; coarser = lit< tt; within = lit< tt }, record { two = lit≤ tt; fewer = lit< tt; positive = lit< tt; at_most_11 = lit< tt }))
    (λ _. (record { two = lit≤ tt; fewer = lit< tt; coarser = lit< tt; within = lit< tt }, record { two = lit≤ tt; fewer = lit< tt; positive = lit< tt; at_most_11 = lit< tt }))
    (λ n. absurd (n refl))

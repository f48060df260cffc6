-- A float row's precision is one that an integer is rounded to, and its smallest spacing is at most 1.
use Prim.Native.Nat.{◌-◌, ◌≤◌}
use lib.Dec.{lit≤}
use Rattle.kinds.specs.Row.{FloatRow}
use Rattle.kinds.specs.declared.FloatFormat.{FloatFormat}
use Rattle.kinds.proofs.FloatRows.{by_row}
use Rattle.integer_rounding.specs.Precision.{Precision}

pub row_precision : (f : FloatFormat) → FloatRow f → Precision f.precision
row_precision = by_row (λ (f : FloatFormat). Precision f.precision) (record { two = lit≤ tt; at_most_53 = lit≤ tt }) (record { two = lit≤ tt; at_most_53 = lit≤ tt }) (record { two = lit≤ tt; at_most_53 = lit≤ tt })

-- its smallest spacing is at most 1, and begins no later in f64's exponents than 1 does
pub row_fine : (f : FloatFormat) → FloatRow f → f.spacing ≤ 1074
row_fine = by_row (λ (f : FloatFormat). f.spacing ≤ 1074) (lit≤ tt) (lit≤ tt) (lit≤ tt)

pub row_early : (f : FloatFormat) → FloatRow f → f.spacing - (53 - f.precision) ≤ 1022
row_early = by_row (λ (f : FloatFormat). f.spacing - (53 - f.precision) ≤ 1022) (lit≤ tt) (lit≤ tt) (lit≤ tt)

-- To be believed: "five counts: mapped, exact, rounded, clamped, wrapped".
use Rattle.std.specs.Prelude.{ℕ}
use Rattle.grid.specs.declared.Ternary.{Ternary}
use Rattle.grid.specs.declared.Ternary.TheVariants as T
use Rattle.counts.specs.declared.Fared.{Fared}
use Rattle.counts.specs.declared.Fared.TheVariants.{Mapped, Exact, Rounded, Clamped, Wrapped}
use Rattle.counts.specs.declared.Counts.{Counts}

-- "any other as exact or rounded by its pick"
abbrev pub by_pick : Ternary → Fared
by_pick T.Exact = Exact
by_pick T.Below = Rounded
by_pick T.Above = Rounded

-- the order of the five
abbrev pub place_of : Fared → ℕ
place_of Mapped = 0
place_of Exact = 1
place_of Rounded = 2
place_of Clamped = 3
place_of Wrapped = 4

abbrev pub no_counts : Counts
no_counts = record { mapped = 0; exact = 0; rounded = 0; clamped = 0; wrapped = 0 }

abbrev pub count_of : Fared → Counts → ℕ
count_of Mapped c = c.mapped
count_of Exact c = c.exact
count_of Rounded c = c.rounded
count_of Clamped c = c.clamped
count_of Wrapped c = c.wrapped

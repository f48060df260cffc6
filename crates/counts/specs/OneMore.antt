-- Internal: one element more that fared so.
use Rattle.std.specs.Prelude.{suc}
use Rattle.counts.specs.declared.Counts.{Counts}
use Rattle.counts.specs.declared.Fared.{Fared}
use Rattle.counts.specs.declared.Fared.TheVariants.{Mapped, Exact, Rounded, Clamped, Wrapped}

abbrev pub counted : Fared → Counts → Counts
counted Mapped c = record { mapped = suc c.mapped; exact = c.exact; rounded = c.rounded; clamped = c.clamped; wrapped = c.wrapped }
counted Exact c = record { mapped = c.mapped; exact = suc c.exact; rounded = c.rounded; clamped = c.clamped; wrapped = c.wrapped }
counted Rounded c = record { mapped = c.mapped; exact = c.exact; rounded = suc c.rounded; clamped = c.clamped; wrapped = c.wrapped }
counted Clamped c = record { mapped = c.mapped; exact = c.exact; rounded = c.rounded; clamped = suc c.clamped; wrapped = c.wrapped }
counted Wrapped c = record { mapped = c.mapped; exact = c.exact; rounded = c.rounded; clamped = c.clamped; wrapped = suc c.wrapped }

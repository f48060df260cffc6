-- Internal: what an integer comes to in a kind, but for the fields of a refusal.
use Rattle.std.specs.Prelude.{◌*◌, ◌^◌}
use Rattle.grid.specs.Round.{signed}
use Rattle.grid.specs.declared.RoundingMode.{RoundingMode}
use Rattle.patterns.specs.Kind.{Kind}
use Rattle.codes.specs.declared.OutOfRangeMode.{OutOfRangeMode}
use Rattle.cast_spec.specs.Fit.{fit_number}
use Rattle.integers.specs.declared.Integer as I
use Rattle.answers.specs.Outcome.{Fit}

abbrev pub fit_integer : Kind → RoundingMode → OutOfRangeMode → I.Integer → Fit
fit_integer k rule range x = fit_number k rule range x.negative (signed x.negative (x.magnitude * 2 ^ 1074))

-- Internal: a pattern of the source kind of a route.
use Rattle.std.specs.Prelude.{ℕ, ◌^◌, ◌<◌}
use Rattle.patterns.specs.Kind.{bits}
use Rattle.routes.specs.Route.{source_of}
use Rattle.routes.specs.declared.Route.{Route}

-- b is a pattern of the source kind
abbrev pub SourcePattern : ℕ → Route → Type 0
SourcePattern b r = b < 2 ^ bits (source_of r)

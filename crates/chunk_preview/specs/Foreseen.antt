-- Internal: a run of the first n positions over a copy of the destination.
use Rattle.std.specs.Prelude.{◌≡◌, List, ℕ}
use Rattle.hamming.specs.Distance.{distance}
use Rattle.answers.specs.declared.Preview.{Preview}
use Rattle.cast_spec.specs.Element as E
use Rattle.chunk_run.specs.Run.{Ran}

pub record Foreseen (S : E.Settings) (sw dw : ℕ) (src dst : List ℕ) (n : ℕ) (p : Preview) : Type 0 where
  pub copy : List ℕ
  pub ran : Ran S sw dw src dst n p.reply copy
  pub changed : p.changed ≡ distance dst copy

-- Internal: what the checks of a call come to.
use Rattle.std.specs.Prelude.{length, Result, Ok, Err}
use Rattle.answers.specs.Outcome.{Answer}
use Rattle.answers.specs.declared.Refusal.{Refusal}
use Rattle.cast_spec.specs.Chunk.{Inputs, checks_of, tested, call_of}
use Rattle.chunk_element.specs.declared.Settings.{Settings}
use Rattle.chunk_settings.specs.Settings.{settings_by}
use Rattle.chunk_checks.specs.declared.Checked.{Checked}

-- the settings of a call, as a program has them
abbrev pub settings_from : Inputs → Settings
settings_from I = settings_by I.from I.to I.rounding I.range (length I.keys)

-- the settings and the count where the checks give no refusal
abbrev pub with_settings : Inputs → Answer → Result Checked Refusal
with_settings I (Ok all) = Ok (record { settings = settings_from I; count = (call_of I).count })
with_settings I (Err r) = Err r

unfoldable pub checked_of : Inputs → Result Checked Refusal
checked_of I = with_settings I (tested (checks_of I) (Ok tt))

-- To be believed: what one element comes to, and what its conversion leaves of it: what is stored, or why nothing is.
use Rattle.std.specs.Prelude.{ℕ, ⊤, Result, Ok}
use Rattle.counts.specs.declared.Fared.{Fared}
use Rattle.answers.specs.declared.Stored.{Stored}
use Rattle.answers.specs.declared.ElementRefusal.{ElementRefusal}
use Rattle.answers.specs.declared.ConversionError.{ConversionError}
use Rattle.answers.specs.declared.Refusal.{Refusal}

abbrev pub Outcome : Type 0
Outcome = Result Stored ElementRefusal

abbrev pub Fit : Type 0
Fit = Result Stored ConversionError

-- the pattern b is stored, and the element fared as f
abbrev pub stored_as : ℕ → Fared → Outcome
stored_as b f = Ok (record { pattern = b; fared = f })

abbrev pub fit_as : ℕ → Fared → Fit
fit_as b f = Ok (record { pattern = b; fared = f })

-- what a call answers: that all is converted, or the refusal
abbrev pub Answer : Type 0
Answer = Result ⊤ Refusal

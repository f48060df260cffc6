-- Internal: the checks of a typed call before its elements.
use Rattle.std.specs.Prelude.{cond, ◌&&◌, ℕ, ltb, eqb, Result, Ok, Err}
use Rattle.codes.specs.Codes.{rounding_of, range_of, wrap_barred}
use Rattle.answers.specs.declared.Refusal.TheVariants as A
use Rattle.typed_casts.specs.declared.Modes.{Modes}
use Rattle.answers.specs.declared.Refusal.{Refusal}

-- of n source elements and m destination elements of the kind `to`: 1, then 8, then 4
abbrev pub check_of : ℕ → ℕ → ℕ → ℕ → ℕ → Result Modes Refusal
check_of n m to rounding range = cond (ltb rounding 5 && ltb range 3)
    (cond (wrap_barred to range) (Err A.BarredWrap) (cond (eqb n m) (Ok (record { rounding = rounding_of rounding; range = range_of range })) (Err (A.LengthMismatch n m))))
    (Err A.UnknownCode)

-- To be believed: what `castlist` prints, over the bytes s that it reads alone.
use Rattle.std.specs.Prelude.{◌≡◌, cond, List, ◌++◌, ℕ, ◌/◌, ◌≤◌, eqb, length, drop}
use Rattle.cast_spec.specs.Chunk.{Inputs, sw, dw, answer_of, destination_of}
use Rattle.report.specs.Report.{refused_line, report}
use Rattle.listing_input.specs.Input.{call, refusal_of}

abbrev pub report_of : Inputs → List ℕ
report_of I = report (answer_of I) (length I.source / sw I) (dw I) (destination_of I)

unfoldable pub listing_of : List ℕ → List ℕ
listing_of s = cond (eqb (refusal_of s) 0) (report_of (call s)) (refused_line (refusal_of s) 0)

-- the listing of s stands at the start of what was d, r is its length, and the other bytes stay
pub record Listed (s d : List ℕ) (r : ℕ) (d' : List ℕ) : Type 0 where
  pub size : r ≡ length (listing_of s)
  pub within : r ≤ length d
  pub bytes : d' ≡ listing_of s ++ drop r d

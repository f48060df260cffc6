-- To be believed: what an answer reports, as text: a first line, then each converted element on a line.
use Rattle.std.specs.Prelude.{cond, List, [], ◌∷◌, ◌++◌, ℕ, zero, suc, ◌*◌, eqb}
use Rattle.bytes_le.specs.Bytes.{pattern_at}
use Rattle.answers.specs.Answer.{number_of, names_position, position_of}
use Rattle.text.specs.Text.{digits, decimal}
use Rattle.answers.specs.Outcome.{Answer}

-- ---- words
-- `ok `
abbrev pub ok : List ℕ
ok = 111 ∷ 107 ∷ 32 ∷ []

-- `refused `
abbrev pub refused : List ℕ
refused = 114 ∷ 101 ∷ 102 ∷ 117 ∷ 115 ∷ 101 ∷ 100 ∷ 32 ∷ []

-- ` at `
abbrev pub at : List ℕ
at = 32 ∷ 97 ∷ 116 ∷ 32 ∷ []

-- a line's end
abbrev pub newline : List ℕ
newline = 10 ∷ []

-- ---- lines

-- "`ok` and the element count"
abbrev pub ok_line : ℕ → List ℕ
ok_line n = ok ++ (decimal n ++ newline)

-- "`refused`, the number and, for 5 to 7, `at` and the position"
abbrev pub refused_line : ℕ → ℕ → List ℕ
refused_line number position = refused ++ (decimal number ++ (cond (names_position number) (at ++ decimal position) [] ++ newline))

-- "First line", of an answer to a call of n elements
abbrev pub first_line : ℕ → ℕ → ℕ → List ℕ
first_line number position n = cond (eqb number 0) (ok_line n) (refused_line number position)

-- how many elements are converted: all, or those before the position; a refusal that names none converts none, and its position is 0
abbrev pub converted : ℕ → ℕ → ℕ → ℕ
converted number position n = cond (eqb number 0) n position

-- an element "on a line, lowercase hexadecimal, highest byte first": two digits for each of its w bytes
abbrev pub line : ℕ → ℕ → List ℕ
line w v = digits 16 (2 * w) v ++ newline

-- k lines, of the elements from the position i on in a destination d
abbrev pub lines : ℕ → List ℕ → ℕ → ℕ → List ℕ
lines w d i zero = []
lines w d i (suc k) = line w (pattern_at w d i) ++ lines w d (suc i) k

-- the first line, "Then each converted element on a line"
abbrev pub report : Answer → ℕ → ℕ → List ℕ → List ℕ
report r n w d = first_line (number_of r) (position_of r) n ++ lines w d 0 (converted (number_of r) (position_of r) n)

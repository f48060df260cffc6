-- Internal: the room that lines and a report take in a lent buffer.
use Rattle.std.specs.Prelude.{List, ℕ, ◌+◌, ◌*◌, ◌≤◌, ◌<◌, length}
use Rattle.bytes_le.specs.Bytes.{Place, Width}
use Rattle.answers.specs.Answer.{position_of}
use Rattle.answers.specs.Outcome.{Answer}

-- a line of two digits for each byte and its end fits at the place a of d
pub record LineFits (d : List ℕ) (a : ℕ) (bytes : List ℕ) (from w : ℕ) : Type 0 where
  pub place : Place bytes from w
  pub fits : a + (2 * w + 1) ≤ length d

-- k elements of w bytes lie within bytes, and their lines fit at the place a of d
pub record LinesFit (d : List ℕ) (a : ℕ) (bytes : List ℕ) (w k : ℕ) : Type 0 where
  pub width : Width w
  pub whole : k * w ≤ length bytes
  pub fits : a + k * (2 * w + 1) ≤ length d

-- an answer to a call of n elements, and room for a first line of at most 18 bytes and n lines
pub record ReportFits (d bytes : List ℕ) (r : Answer) (n w : ℕ) : Type 0 where
  pub width : Width w
  pub below_10000 : n < 10000
  pub position : position_of r ≤ n
  pub whole : n * w ≤ length bytes
  pub fits : 18 + n * (2 * w + 1) ≤ length d

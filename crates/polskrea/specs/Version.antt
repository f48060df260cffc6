-- To be believed: the version of the calls.
use Rattle.std.specs.Prelude.{ℕ}

-- 2 stands for 0.2
abbrev pub version : ℕ
version = 2

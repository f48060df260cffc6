-- The last arm's width is 8.
use Rattle.std.proofs.Common.{ℕ, sym, subst, arith}
use Rattle.bytes_le.specs.Fetch.{Fetched}
use Rattle.bytes_le.proofs.Widths.{last_width}
use Rattle.bytes_le.proofs.read_le.Goals as goal

pub returns-in_default : goal.returns-in_default
returns-in_default c = let a = c.args in subst (λ (w : ℕ). Fetched a.s.now a.at w c.get_le-in_default.result) (sym (last_width c.requires.width (λ e. omega arith) (λ e. omega arith) (λ e. omega arith))) c.get_le-in_default.ensures

-- Each arm puts as many bytes as the width says; the last arm's width is 8.
use Rattle.std.proofs.Common.{ℕ, sym, ap, ◌∙◌, arith}
use Rattle.bytes_le.specs.Bytes.{put}
use Rattle.bytes_le.proofs.Widths.{last_width}
use Rattle.store_le.proofs.write_le.Goals as goal

pub put_le-requires-in_default : goal.put_le-requires-in_default
put_le-requires-in_default c = omega (arith, last_width c.requires.width (λ e. omega arith) (λ e. omega arith) (λ e. omega arith))

pub returns-in_default : goal.returns-in_default
returns-in_default c = let a = c.args in c.put_le-in_default.ensures ∙ ap (λ (w : ℕ). put a.d.now a.at w a.v) (sym (last_width c.requires.width (λ e. omega arith) (λ e. omega arith) (λ e. omega arith)))

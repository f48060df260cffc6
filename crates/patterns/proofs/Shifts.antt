-- Constants that a program works out by shifts in 64 bits: a power of two, and an infinity's bits.
use mathlib.Core.Path.{◌≡◌, ap, ◌∙◌}
use Prim.Native.Nat.{ℕ, ◌+◌, ◌-◌, ◌*◌, ◌%◌, ◌^◌, ◌≤◌, ◌<◌}
use native.Mathlib.Nat.{one-mul}
use native.Mathlib.Omega.{arith}
use lib.Dec.{lit<}
use lib.Pow.{pow_pos, shl_exact}
use Rattle.patterns.specs.Float.{inf_bits}

pub one_shifted : (j : ℕ) → j < 64 → 1 * 2 ^ j % 2 ^ 64 ≡ 2 ^ j
one_shifted j h = shl_exact 1 j 64 (lit< tt) (omega arith) ∙ one-mul (2 ^ j)

pub infinity_shifted : (p w : ℕ) → 0 < p → w + p ≤ 64 → (1 * 2 ^ w % 2 ^ 64 - 1) * 2 ^ (p - 1) % 2 ^ 64 ≡ inf_bits p w
infinity_shifted p w positive at_most_64 =
    ap (λ (z : ℕ). (z - 1) * 2 ^ (p - 1) % 2 ^ 64) (one_shifted w (omega arith))
    ∙ shl_exact w (p - 1) 64 (omega (arith, pow_pos w)) (omega arith)

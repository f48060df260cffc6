-- Internal: a finite float's magnitude as a program has it, by significand and exponent, and its bits as an f64.
use Rattle.std.specs.Prelude.{ℕ, ◌+◌, ◌-◌, ◌*◌, ◌/◌, ◌^◌, ◌≤◌, ◌<◌}
use Rattle.std.specs.Float.Ieee.{size}
use Rattle.scaled.specs.declared.Scaled.{Scaled}

-- a magnitude n of f64 by its 53 highest bits, or all of them
abbrev pub scaled_of : ℕ → Scaled
scaled_of n = let e = size n - 53 in record { significand = n / 2 ^ e; exponent = e }

-- 53 significant bits, or fewer at the exponent 0
pub record Canonical (x : Scaled) : Type 0 where
  pub small : x.significand < 2 ^ 53
  pub leading : 0 < x.exponent → 2 ^ 52 ≤ x.significand
  pub finite : x.exponent < 2046

-- the bits below the sign of an f64
abbrev pub finite_bits : Scaled → ℕ
finite_bits x = x.exponent * 2 ^ 52 + x.significand

-- Internal: the bits of an f64 as those of a narrower format.
use Rattle.std.specs.Prelude.{◌≡◌, cond, ℕ, ◌+◌, ◌-◌, ◌*◌, ◌/◌, ◌^◌, ◌≤◌, eqb}

-- 0, or the bits of a number that is normal in the narrower format
pub record Rebiasable (p s bits : ℕ) : Type 0 where
  pub normal : (bits ≡ 0 → ⊥) → (s - (53 - p)) * 2 ^ 52 ≤ bits

abbrev pub rebiased : ℕ → ℕ → ℕ → ℕ
rebiased p s bits = cond (eqb bits 0) 0 ((bits - (s - (53 - p)) * 2 ^ 52) / 2 ^ (53 - p))

-- the bits in f64 of the first power of two past the format, which its field of ones would stand for
abbrev pub past_bits : ℕ → ℕ → ℕ → ℕ
past_bits p w s = (s - (53 - p) + (2 ^ w - 1)) * 2 ^ 52

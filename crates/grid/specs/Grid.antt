-- To be believed: grids. "each finite element and each grid number of these kinds is a whole multiple of 2^-1074, and that multiple stands for it."
use Rattle.std.specs.Prelude.{◌≡◌, ℕ, ◌*◌, ◌%◌, ◌^◌, ◌≤◌, ◌<◌, ℤ, nat_abs}

-- `whole k`: every m × 2^k. `float p s`: every m × 2^e with m below 2^p in magnitude and e at least s. Exponents count from 2^-1074.
pub data Grid : Type 0 where
  whole : ℕ → Grid
  float : ℕ → ℕ → Grid

-- the magnitude n is written m × 2^e as the grid allows
abbrev pub Written : Grid → ℕ → ℕ → ℕ → Type 0
Written (whole k) n m e = (e ≡ k) × (n ≡ m * 2 ^ e)
Written (float p s) n m e = (m < 2 ^ p) × (s ≤ e) × (n ≡ m * 2 ^ e)

pub record OnMag (g : Grid) (n : ℕ) : Type 0 where
  pub m : ℕ
  pub e : ℕ
  pub written : Written g n m e

-- "Such a number is even when m is even at the least e that it can be written with."
pub record EvenMag (g : Grid) (n : ℕ) : Type 0 where
  pub m : ℕ
  pub e : ℕ
  pub written : Written g n m e
  pub least : (m' e' : ℕ) → Written g n m' e' → e ≤ e'
  pub even : m % 2 ≡ 0

-- a grid has the negative of each of its numbers
abbrev pub OnGrid : Grid → ℤ → Type 0
OnGrid g x = OnMag g (nat_abs x)

abbrev pub EvenOn : Grid → ℤ → Type 0
EvenOn g x = EvenMag g (nat_abs x)

-- with one bit of precision both neighbours of a halfway number would be odd
abbrev pub Sound : Grid → Type 0
Sound (whole k) = Unit {0}
Sound (float p s) = 2 ≤ p

-- Internal: the fields of a float narrower than f64, as those of an f32.
use Rattle.std.specs.Prelude.{cond, ℕ, ◌+◌, ◌-◌, ◌*◌, ◌^◌, ◌≤◌, ◌<◌, eqb, leb}
use Rattle.float_fields.specs.Parts.{field_of, fraction_of}
use Rattle.float_fields.specs.declared.Widened.{Widened}

-- a field of w bits that counts from `start` in f32; 0 and the field of ones stay so
abbrev pub widened_field : ℕ → ℕ → ℕ → ℕ
widened_field w start x = cond (eqb x 0) 0 (cond (eqb x (2 ^ w - 1)) 255 (x + start))

-- of the pattern b of p significant bits, w bits of exponent field and the smallest spacing 2^s
abbrev pub widened_of : ℕ → ℕ → ℕ → ℕ → Widened
widened_of p w s b = record { negative = leb (2 ^ (w + p - 1)) b; exponent = widened_field w (s - 925 - (24 - p)) (field_of p w b); fraction = fraction_of p b * 2 ^ (24 - p); spacing = s - (24 - p) }

-- f32, or a format whose normal numbers are normal in f32
pub record Widens (p w s : ℕ) : Type 0 where
  pub two : 2 ≤ p
  pub at_most_24 : p ≤ 24
  pub positive : 0 < w
  pub start : 925 + (24 - p) ≤ s
  pub within : 2 ^ w + (s - 925 - (24 - p)) ≤ 256

-- what the fields of any such format have
pub record WidenedFields (f : Widened) : Type 0 where
  pub fraction_small : f.fraction < 2 ^ 23
  pub exponent_small : f.exponent ≤ 255
  pub spacing_large : 53 ≤ f.spacing

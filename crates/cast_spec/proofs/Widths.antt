-- The bytes of an element of a listed kind.
use mathlib.Core.Path.{◌≡◌, refl, sym, ap, subst, ◌∙◌}
use mathlib.Core.Logic.{inl, inr}
use Prim.Native.Nat.{ℕ, zero, suc, ◌*◌, ◌/◌, ◌^◌, ◌<◌}
use native.Mathlib.Nat.{mul-div_right}
use native.Mathlib.Omega.{arith}
use lib.Dec.{lit<}
use Rattle.bytes_le.specs.Bytes.{Width}
use Rattle.bytes_le.proofs.Sums.{byte_patterns}
use Rattle.bytes_le.proofs.Widths.{positive_width}
use Rattle.patterns.specs.Kind.{Kind, bits, width}
use Rattle.kinds.specs.Table.{kind_of}
use Rattle.kinds.proofs.Listed.{by_kind, by_any_code}

bytes_of_bits : (m : ℕ) → 8 * m / 8 ≡ m
bytes_of_bits m = mul-div_right m (lit< tt)

-- ---- 1, 2, 4 or 8
power_width : (c : ℕ) → c < 4 → Width (2 ^ c)
power_width zero h = inl refl
power_width (suc zero) h = inr (inl refl)
power_width (suc (suc zero)) h = inr (inr (inl refl))
power_width (suc (suc (suc zero))) h = inr (inr (inr refl))
power_width (suc (suc (suc (suc c)))) h = absurd (omega arith)

pub listed_width : (code : ℕ) → code < 11 → Width (width (kind_of code))
listed_width = by_kind (λ (k : Kind). Width (width k)) (λ s c h. subst Width (sym (bytes_of_bits (2 ^ c))) (power_width c h)) (inr (inr (inl refl))) (inr (inr (inr refl))) (inr (inl refl))

pub width_pos : (code : ℕ) → code < 11 → 0 < width (kind_of code)
width_pos code h = positive_width (listed_width code h)

-- ---- 8 bits each, of any code: one that is not listed is read as that of f16
abbrev Whole : Kind → Type 0
Whole k = 8 * width k ≡ bits k

pub width_bits : (code : ℕ) → Whole (kind_of code)
width_bits = by_any_code Whole (λ s c. ap (λ (m : ℕ). 8 * m) (bytes_of_bits (2 ^ c))) refl refl refl

-- so the patterns of the bytes are those of the bits
pub kind_fits : (code : ℕ) → 256 ^ width (kind_of code) ≡ 2 ^ bits (kind_of code)
kind_fits code = byte_patterns (width (kind_of code)) ∙ ap (λ (z : ℕ). 2 ^ z) (width_bits code)

-- Rebiased bits reach an infinity's exactly where the bits in f64 reach those of the first power of two past the format.
use mathlib.Core.Path.{◌≡◌, sym, ap, subst, ◌∙◌}
use Prim.Native.Nat.{ℕ, ◌+◌, ◌-◌, ◌*◌, ◌/◌, ◌^◌, ◌≤◌, ◌<◌}
use native.Mathlib.Nat.{div-lt_iff_lt-mul, mul_assoc}
use native.Mathlib.Omega.{arith}
use lib.Pow.{pow-add, pow_pos}
use borrow.Author.Tests.{eq-eqb, ne_eqb}
use Rattle.grid.proofs.Neighbours.{cut, pow_twice_pred}
use Rattle.patterns.specs.Float.{inf_bits}
use Rattle.patterns.proofs.Floats.{inf_pos}
use Rattle.float_range.specs.Range.{FormatBits}
use Rattle.rebiasing.specs.Rebiased.{Rebiasable, rebiased, past_bits}

module _ (p w s bits : ℕ) (format : FormatBits p w) (ok : Rebiasable p s bits) where
  abbrev start : ℕ
  start = (s - (53 - p)) * 2 ^ 52

  -- an infinity's bits with the dropped places below them are a field of ones in f64
  infinity_widened : inf_bits p w * 2 ^ (53 - p) ≡ (2 ^ w - 1) * 2 ^ 52
  infinity_widened = mul_assoc (2 ^ w - 1) (2 ^ (p - 1)) (2 ^ (53 - p)) ∙ ap (λ (z : ℕ). (2 ^ w - 1) * z) (sym (pow-add 2 (p - 1) (53 - p)) ∙ ap (λ (z : ℕ). 2 ^ z) (places p format.two format.fewer))
    where
      places : (p : ℕ) → 2 ≤ p → p < 53 → p - 1 + (53 - p) ≡ 52
      places p two few = omega arith

  ones : 1 ≤ 2 ^ w - 1
  ones = omega (arith, pow_twice_pred w format.positive, pow_pos (w - 1))

  rebiased_is : (bits ≡ 0 → ⊥) → (bits - start) / 2 ^ (53 - p) ≡ rebiased p s bits
  rebiased_is n = sym (simp (ne_eqb bits 0 n))

  pub below_past : bits < past_bits p w s → rebiased p s bits < inf_bits p w
  below_past h = cut 0 bits
      (λ (l : 0 < bits).
      let n : bits ≡ 0 → ⊥ = λ z. omega arith in
      subst (λ (z : ℕ). z < inf_bits p w) (rebiased_is n) ((div-lt_iff_lt-mul (pow_pos (53 - p))).1 (omega (arith, infinity_widened, ok.normal n))))
      (λ (l : bits ≤ 0). let z : bits ≡ 0 = omega arith in simp (eq-eqb bits 0 z) (inf_pos p w s format.two format.positive))

  pub from_past : past_bits p w s ≤ bits → inf_bits p w ≤ rebiased p s bits
  from_past h =
      let n : bits ≡ 0 → ⊥ = λ z. omega (arith, ones) in
      cut (rebiased p s bits) (inf_bits p w)
      (λ (l : rebiased p s bits < inf_bits p w). absurd (omega (arith, (div-lt_iff_lt-mul (pow_pos (53 - p))).0 (subst (λ (z : ℕ). z < inf_bits p w) (sym (rebiased_is n)) l), infinity_widened)))
      (λ l. l)

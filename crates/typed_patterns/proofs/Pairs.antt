-- The laws of the five pairs: patterns fit their kinds, and a stored pattern is the one that the number read from it has.
use mathlib.Core.Path.{◌≡◌, refl, ap, ap₂, subst, sym, ◌∙◌}
use mathlib.Core.Bool.{Bool, true, false, cond}
use mathlib.Core.List.{List, [], ◌∷◌}
use Prim.Native.Nat.{ℕ, zero, suc, ◌+◌, ◌-◌, ◌*◌, ◌/◌, ◌%◌, ◌^◌, ◌<◌}
use native.Mathlib.Omega.{arith}
use native.Mathlib.Nat.{mod-mod, mod-lt, mod-eq_of_lt, one-le-pow, pow-suc, zero-lt-suc}
use lib.Arith.{mod-mul, digits_div, digits_mod}
use lib.Dec.{ltb, lit<}
use lib.IntN.{pos, negsuc}
use lib.Ieee.{binary64}
use Rattle.bytes_le.specs.Bytes.{to_le}
use Rattle.patterns.specs.Kind.{Kind, f64}
use Rattle.patterns.specs.Value.{nan, value_of}
use Rattle.patterns.specs.Pattern.{low_bits, nan_pattern}
use Rattle.patterns.proofs.Integers.{no_integer_nan}
use Rattle.typed_values.specs.Bits.{f64_bits, f32_bits, i64_bits, i32_bits, u8_bits}
use Rattle.typed_values.proofs.Fits.{f64_fits, f32_fits, i64_fits, i32_fits, u8_fits}
use Rattle.typed_values.proofs.Nans.{Back, quiet, quiet_kept, bits_are_back}
use Rattle.typed_patterns.specs.Values.{u8_of, i32_of, f32_of}
use Rattle.typed_patterns.specs.Pairs.{pair_entry, PairLaws}
use Rattle.typed_patterns.proofs.Stored.{read_back, stored_back}

-- ---- the bytes of a number are those of its remainder
pub low_bytes : (n v : ℕ) → to_le n (v % 256 ^ n) ≡ to_le n v
low_bytes zero v = refl
low_bytes (suc n) v =
    let e : v % 256 ^ suc n ≡ v / 256 % 256 ^ n * 256 + v % 256 = ap (λ (z : ℕ). v % z) (pow-suc 256 n) ∙ mod-mul v (one-le-pow n 256 (zero-lt-suc 255)) (zero-lt-suc 255) in
    let h : v % 256 < 256 = mod-lt v (zero-lt-suc 255) in
    ap₂ (λ (x : ℕ) (l : List ℕ). x ∷ l)
    (ap (λ (z : ℕ). z % 256) e ∙ digits_mod (v / 256 % 256 ^ n) h)
    (ap (λ (z : ℕ). to_le n (z / 256)) e ∙ ap (to_le n) (digits_div (v / 256 % 256 ^ n) h) ∙ low_bytes n (v / 256))

-- the bits of the i32 that is read from a pattern are its lowest 32
pub again : (b : ℕ) → low_bits 32 (i32_of b) ≡ b % 2 ^ 32
again b = go (ltb n (2 ^ 31))
  where
    n : ℕ
    n = b % 2 ^ 32

    l : n < 2 ^ 32
    l = mod-lt b (lit< tt)

    go : (t : Bool) → low_bits 32 (cond t (pos n) (negsuc (2 ^ 32 - 1 - n))) ≡ n
    go true = mod-eq_of_lt l
    go false = let e : 2 ^ 32 - 1 - n < 2 ^ 32 = omega arith in ap (λ (z : ℕ). 2 ^ 32 - 1 - z) (mod-eq_of_lt e) ∙ omega (arith, l)

pub u8_kept : (b : ℕ) → to_le 1 (u8_bits (u8_of b)) ≡ to_le 1 b
u8_kept b = ap (λ (z : ℕ). z ∷ []) (mod-mod (b % 256) 256 ∙ mod-mod b 256)

pub i32_kept : (b : ℕ) → to_le 4 (i32_bits (i32_of b)) ≡ to_le 4 b
i32_kept b = ap (to_le 4) (again b) ∙ low_bytes 4 b

-- ---- the five
pub f64_to_u8 : PairLaws 9 4 f64_bits u8_bits u8_of
f64_to_u8 = record {
  from_listed = lit< tt;
  to_listed = lit< tt;
  source_fits = f64_fits;
  target_fits = u8_fits;
  keeps = λ s from to entries e x b f h. u8_kept b;
}

pub f64_to_i32 : PairLaws 9 2 f64_bits i32_bits i32_of
f64_to_i32 = record {
  from_listed = lit< tt;
  to_listed = lit< tt;
  source_fits = f64_fits;
  target_fits = i32_fits;
  keeps = λ s from to entries e x b f h. i32_kept b;
}

pub f32_to_u8 : PairLaws 8 4 f32_bits u8_bits u8_of
f32_to_u8 = record {
  from_listed = lit< tt;
  to_listed = lit< tt;
  source_fits = f32_fits;
  target_fits = u8_fits;
  keeps = λ s from to entries e x b f h. u8_kept b;
}

pub f64_to_f32 : PairLaws 9 8 f64_bits f32_bits f32_of
f64_to_f32 = record {
  from_listed = lit< tt;
  to_listed = lit< tt;
  source_fits = f64_fits;
  target_fits = f32_fits;
  keeps = λ s from to entries e x b f h.
      read_back b (stored_back (pair_entry f64_bits f32_bits) (λ p. bits_are_back p.1) entries s to e (f64_bits x) b f
      (λ n. subst (λ (k : Kind). Back (nan_pattern k 24 8 (f64_bits x))) (sym from) (subst (λ (z : ℕ). Back (nan_pattern f64 24 8 z)) (sym (quiet binary64 x (subst (λ (k : Kind). value_of k (f64_bits x) ≡ nan) from n))) quiet_kept)) h);
}

pub i64_to_f32 : PairLaws 3 8 i64_bits f32_bits f32_of
i64_to_f32 = record {
  from_listed = lit< tt;
  to_listed = lit< tt;
  source_fits = i64_fits;
  target_fits = f32_fits;
  keeps = λ s from to entries e x b f h.
      read_back b (stored_back (pair_entry i64_bits f32_bits) (λ p. bits_are_back p.1) entries s to e (i64_bits x) b f
      (λ n. absurd (no_integer_nan true 64 (i64_bits x) (subst (λ (k : Kind). value_of k (i64_bits x) ≡ nan) from n))) h);
}

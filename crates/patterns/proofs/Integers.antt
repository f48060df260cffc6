-- The number of an integer kind's pattern: for any count of bits, and any unit u.
use mathlib.Core.Path.{◌≡◌, refl, sym, ap, ◌∙◌}
use mathlib.Core.Bool.{Bool, true, false, ◌&&◌, cond}
use Prim.Native.Nat.{ℕ, zero, suc, ◌+◌, ◌-◌, ◌*◌, ◌/◌, ◌%◌, ◌^◌, ◌≤◌, ◌<◌}
use native.Mathlib.Nat.{div-add-mod', mod-lt, mod-eq_of_lt, mul-div_cancel, le_of_mul-le-mul_right, mul-le-mul_right, add-mul, mul_assoc, mul-pos, zero-mul, div-eq_of_lt}
use native.Mathlib.Omega.{arith}
use lib.Arith.{digits_div}
use lib.Dec.{leb}
use lib.IntN.{ℤ, pos, negsuc, neg_ℤ, nat_abs, ◌+ℤ◌, ◌*ℤ◌}
use lib.Pow.{pow_pos}
use lib.Signed.{◌≤ℤ◌, shr_z}
use borrow.Author.Tests.{le-leb, lt-leb, leb-true, leb-false}
use Rattle.grid.specs.Round.{signed}
use Rattle.grid.proofs.Int.{up, dn, ints, →eq, up_neg, dn_neg, sub_parts}
use Rattle.grid.proofs.Neighbours.{pow_twice_pred}
use Rattle.patterns.specs.Kind.{integer, high_int}
use Rattle.patterns.specs.Value.{nan, negative, value_of}
use Rattle.patterns.specs.Pattern.{low_bits}

pub no_integer_nan : (s : Bool) (n b : ℕ) → value_of (integer s n) b ≡ nan → ⊥
unfolding value_of
no_integer_nan s n b e = let z : ◌≡◌ {A = ℕ} 0 1 = cc in omega arith

-- the number of a pattern, in units of u
abbrev pub value_in : Bool → ℕ → ℕ → ℕ → ℤ
value_in s n u b = signed (negative (integer s n) b) (cond (negative (integer s n) b) (2 ^ n - b) b * u)

abbrev pub low_in : Bool → ℕ → ℕ → ℤ
low_in true n u = neg_ℤ (pos (2 ^ (n - 1) * u))
low_in false n u = pos 0

-- ---- the number of a pattern by its top bit
plus : (s : Bool) (n u b : ℕ) → negative (integer s n) b ≡ false → value_in s n u b ≡ pos (b * u)
plus s n u b e = ap {B = ℤ} (λ (t : Bool). signed t (cond t (2 ^ n - b) b * u)) e

minus : (s : Bool) (n u b : ℕ) → negative (integer s n) b ≡ true → value_in s n u b ≡ neg_ℤ (pos ((2 ^ n - b) * u))
minus s n u b e = ap {B = ℤ} (λ (t : Bool). signed t (cond t (2 ^ n - b) b * u)) e

-- ---- a multiple of u, over u
below : (a q u : ℕ) → 0 < u → suc a ≡ suc q * u → a / u ≡ q
below a q u h e = ap (λ (z : ℕ). z / u) (last a q u h e) ∙ digits_div q (less u h)
  where
    last : (a q u : ℕ) → 0 < u → suc a ≡ suc q * u → a ≡ q * u + (u - 1)
    last a q u h e = omega arith

    less : (u : ℕ) → 0 < u → u - 1 < u
    less u h = omega arith

pub over_unit : (neg : Bool) (N u : ℕ) → 0 < u → shr_z (signed neg (N * u)) u ≡ signed neg N
over_unit false N u h = ap pos (mul-div_cancel N h)
over_unit true zero u h = ap (λ (z : ℕ). shr_z (neg_ℤ (pos z)) u) (zero-mul u) ∙ ap pos (div_zero u h)
  where
    div_zero : (u : ℕ) → 0 < u → 0 / u ≡ 0
    div_zero u h = div-eq_of_lt h
over_unit true (suc q) u h = go (suc q * u) (mul-pos {m = suc q} (omega arith) h) refl
  where
    go : (m : ℕ) → 0 < m → m ≡ suc q * u → shr_z (neg_ℤ (pos m)) u ≡ negsuc q
    go zero l e = absurd (omega arith)
    go (suc a) l e = ap negsuc (below a q u h e)

-- ---- sums and products of ℤ by their parts
pub add_parts : (x y : ℤ) → up (x +ℤ y) + (dn x + dn y) ≡ dn (x +ℤ y) + (up x + up y)
add_parts (pos a) (pos b) = omega arith
add_parts (pos a) (negsuc b) = omega (arith, sub_parts a (suc b))
add_parts (negsuc a) (pos b) = omega (arith, sub_parts b (suc a))
add_parts (negsuc a) (negsuc b) = omega arith

pub up_times : (t : ℤ) (M : ℕ) → up (t *ℤ pos M) ≡ up t * M
up_times (pos a) M = refl
up_times (negsuc a) M = up_neg (pos (suc a * M)) ∙ sym (zero-mul M)

pub dn_times : (t : ℤ) (M : ℕ) → dn (t *ℤ pos M) ≡ dn t * M
dn_times (pos a) M = sym (zero-mul M)
dn_times (negsuc a) M = dn_neg (pos (suc a * M))

pub assemble : (y v t : ℤ) (M a d : ℕ) → up t ≡ a → dn t ≡ d → up y + dn v + d * M ≡ dn y + up v + a * M → y ≡ v +ℤ t *ℤ pos M
assemble y v t M a d p q e =
    let pu : up (t *ℤ pos M) ≡ a * M = up_times t M ∙ ap (λ (z : ℕ). z * M) p in
    let pd : dn (t *ℤ pos M) ≡ d * M = dn_times t M ∙ ap (λ (z : ℕ). z * M) q in
    →eq y (v +ℤ t *ℤ pos M) (omega (arith, add_parts v (t *ℤ pos M)))

module _ (s : Bool) (n u : ℕ) (some : 0 < n) (unit : 0 < u) where
  half : 2 ^ n ≡ 2 * 2 ^ (n - 1)
  half = pow_twice_pred n some

  pub low_bits_lt : (z : ℤ) → low_bits n z < 2 ^ n
  low_bits_lt (pos m) = mod-lt m (pow_pos n)
  low_bits_lt (negsuc m) = omega (arith, pow_pos n)

  -- ---- every pattern's number is in the range
  pub high_lt : high_int s n < 2 ^ n
  high_lt = go s
    where
      go : (s : Bool) → high_int s n < 2 ^ n
      go true = omega (arith, half, pow_pos (n - 1))
      go false = omega (arith, pow_pos n)

  small : (b : ℕ) → b < 2 ^ n → negative (integer s n) b ≡ false → b ≤ high_int s n
  small b h e = go s e
    where
      go : (s : Bool) → negative (integer s n) b ≡ false → b ≤ high_int s n
      go true e = omega (arith, leb-false (2 ^ (n - 1)) b e)
      go false e = omega arith

  big : (b : ℕ) → negative (integer s n) b ≡ true → (2 ^ (n - 1) ≤ b) × (low_in s n u ≡ neg_ℤ (pos (2 ^ (n - 1) * u)))
  big b e = go s e
    where
      go : (s : Bool) → negative (integer s n) b ≡ true → (2 ^ (n - 1) ≤ b) × (low_in s n u ≡ neg_ℤ (pos (2 ^ (n - 1) * u)))
      go true e = (leb-true (2 ^ (n - 1)) b e, refl)
      go false e = let z : ◌≡◌ {A = ℕ} 0 1 = cc in absurd (omega arith)

  low_under : (m : ℕ) → low_in s n u ≤ℤ pos m
  low_under m = go s
    where
      go : (s : Bool) → low_in s n u ≤ℤ pos m
      go true = omega (ints, up_neg (pos (2 ^ (n - 1) * u)), dn_neg (pos (2 ^ (n - 1) * u)))
      go false = omega ints

  pub value_in_range : (b : ℕ) → b < 2 ^ n → (low_in s n u ≤ℤ value_in s n u b) × (value_in s n u b ≤ℤ pos (high_int s n * u))
  value_in_range b h = go (negative (integer s n) b) refl
    where
      go : (t : Bool) → negative (integer s n) b ≡ t → (low_in s n u ≤ℤ value_in s n u b) × (value_in s n u b ≤ℤ pos (high_int s n * u))
      go false e = rw (plus s n u b e) (low_under (b * u), omega (ints, mul-le-mul_right u (small b h e)))
      go true e =
          let k = big b e in
          let m = (2 ^ n - b) * u in
          let l : m ≤ 2 ^ (n - 1) * u = mul-le-mul_right u (omega (arith, half)) in
          rw (minus s n u b e, k.1) (omega (ints, up_neg (pos m), dn_neg (pos m), up_neg (pos (2 ^ (n - 1) * u)), dn_neg (pos (2 ^ (n - 1) * u))), omega (ints, up_neg (pos m), dn_neg (pos m)))

  -- ---- a number in the range is the number of its own pattern
  module _ (y : ℤ) (q : ℕ) (is : nat_abs y ≡ q * u) (low : low_in s n u ≤ℤ y) (high : y ≤ℤ pos (high_int s n * u)) where
    pub back : value_in s n u (low_bits n (shr_z y u)) ≡ y
    back = go y q is low high
      where
        not_high : (q : ℕ) → q ≤ high_int s n → negative (integer s n) q ≡ false
        not_high q h = pick s h
          where
            pick : (s : Bool) → q ≤ high_int s n → negative (integer s n) q ≡ false
            pick true h = lt-leb (2 ^ (n - 1)) q (omega (arith, pow_pos (n - 1)))
            pick false h = refl

        is_low : (a : ℕ) → low_in s n u ≤ℤ negsuc a → (s ≡ true) × (suc a ≤ 2 ^ (n - 1) * u)
        is_low a h = pick s h
          where
            pick : (s : Bool) → low_in s n u ≤ℤ negsuc a → (s ≡ true) × (suc a ≤ 2 ^ (n - 1) * u)
            pick true h = (refl, omega (ints, up_neg (pos (2 ^ (n - 1) * u)), dn_neg (pos (2 ^ (n - 1) * u))))
            pick false h = absurd (omega ints)

        go : (y : ℤ) (q : ℕ) → nat_abs y ≡ q * u → low_in s n u ≤ℤ y → y ≤ℤ pos (high_int s n * u) → value_in s n u (low_bits n (shr_z y u)) ≡ y
        go (pos m) q e l h =
            let k : q ≤ high_int s n = le_of_mul-le-mul_right (omega (ints, e)) unit in
            let d : m / u % 2 ^ n ≡ q = ap (λ (z : ℕ). z / u % 2 ^ n) e ∙ ap (λ (z : ℕ). z % 2 ^ n) (mul-div_cancel q unit) ∙ mod-eq_of_lt (omega (arith, high_lt)) in
            ap (value_in s n u) d ∙ plus s n u q (not_high q k) ∙ ap pos (sym e)
        go (negsuc a) zero e l h = absurd (omega (arith, e))
        go (negsuc a) (suc q) e l h =
            let k = is_low a l in
            let j : suc q ≤ 2 ^ (n - 1) = le_of_mul-le-mul_right (omega (arith, e, k.1)) unit in
            let b = 2 ^ n - suc q in
            let d : 2 ^ n - 1 - a / u % 2 ^ n ≡ b = ap (λ (z : ℕ). 2 ^ n - 1 - z % 2 ^ n) (below a q u unit e) ∙ ap (λ (z : ℕ). 2 ^ n - 1 - z) (mod-eq_of_lt (omega (arith, half))) ∙ omega arith in
            let f : negative (integer s n) b ≡ true = ap (λ (t : Bool). t && leb (2 ^ (n - 1)) b) k.0 ∙ le-leb (2 ^ (n - 1)) b (omega (arith, half)) in
            let c : 2 ^ n - b ≡ suc q = omega (arith, half) in
            ap (value_in s n u) d ∙ minus s n u b f ∙ ap (λ (z : ℕ). neg_ℤ (pos (z * u))) c ∙ ap (λ (z : ℕ). neg_ℤ (pos z)) (sym e)

  -- ---- any multiple of u is congruent to the number of its lowest bits
  rest : (b : ℕ) → b < 2 ^ n → (2 ^ n - b) * u + b * u ≡ 2 ^ n * u
  rest b h = sym (add-mul (2 ^ n - b) b u) ∙ ap (λ (z : ℕ). z * u) (omega arith)

  wrap_up : (m t b : ℕ) → b < 2 ^ n → m ≡ t * (2 ^ n * u) + b * u → (t : ℤ) × (pos m ≡ value_in s n u b +ℤ t *ℤ pos (2 ^ n * u))
  wrap_up m t b h e = go (negative (integer s n) b) refl
    where
      go : (f : Bool) → negative (integer s n) b ≡ f → (t : ℤ) × (pos m ≡ value_in s n u b +ℤ t *ℤ pos (2 ^ n * u))
      go false f = (pos t, rw (plus s n u b f) (assemble (pos m) (pos (b * u)) (pos t) (2 ^ n * u) t 0 refl refl (omega arith)))
      go true f =
          let v = pos ((2 ^ n - b) * u) in
          (pos (suc t), rw (minus s n u b f) (assemble (pos m) (neg_ℤ v) (pos (suc t)) (2 ^ n * u) (suc t) 0 refl refl (omega (arith, rest b h, up_neg v, dn_neg v))))

  wrap_down : (a t b : ℕ) → b < 2 ^ n → suc a + b * u ≡ suc t * (2 ^ n * u) → (t : ℤ) × (negsuc a ≡ value_in s n u b +ℤ t *ℤ pos (2 ^ n * u))
  wrap_down a t b h e = go (negative (integer s n) b) refl
    where
      go : (f : Bool) → negative (integer s n) b ≡ f → (t : ℤ) × (negsuc a ≡ value_in s n u b +ℤ t *ℤ pos (2 ^ n * u))
      go false f = (negsuc t, rw (plus s n u b f) (assemble (negsuc a) (pos (b * u)) (negsuc t) (2 ^ n * u) 0 (suc t) refl refl (omega arith)))
      go true f =
          let v = pos ((2 ^ n - b) * u) in
          (neg_ℤ (pos t), rw (minus s n u b f) (assemble (negsuc a) (neg_ℤ v) (neg_ℤ (pos t)) (2 ^ n * u) 0 t (up_neg (pos t)) (dn_neg (pos t)) (omega (arith, rest b h, up_neg v, dn_neg v))))

  parted : (q : ℕ) → q * u ≡ q / 2 ^ n * (2 ^ n * u) + q % 2 ^ n * u
  parted q = ap (λ (z : ℕ). z * u) (sym (div-add-mod' q (2 ^ n))) ∙ add-mul (q / 2 ^ n * 2 ^ n) (q % 2 ^ n) u ∙ ap (λ (z : ℕ). z + q % 2 ^ n * u) (mul_assoc (q / 2 ^ n) (2 ^ n) u)

  pub wrapped : (y : ℤ) (q : ℕ) → nat_abs y ≡ q * u → (t : ℤ) × (y ≡ value_in s n u (low_bits n (shr_z y u)) +ℤ t *ℤ pos (2 ^ n * u))
  wrapped (pos m) q e =
      let c : m / u ≡ q = ap (λ (z : ℕ). z / u) e ∙ mul-div_cancel q unit in
      rw c (wrap_up m (q / 2 ^ n) (q % 2 ^ n) (mod-lt q (pow_pos n)) (e ∙ parted q))
  wrapped (negsuc a) zero e = absurd (omega (arith, e))
  wrapped (negsuc a) (suc q) e =
      let b = 2 ^ n - 1 - q % 2 ^ n in
      let h = mod-lt q (pow_pos n) in
      let f : b * u + suc (q % 2 ^ n) * u ≡ 2 ^ n * u = sym (add-mul b (suc (q % 2 ^ n)) u) ∙ ap (λ (z : ℕ). z * u) (omega arith) in
      rw (below a q u unit e) (wrap_down a (q / 2 ^ n) b (omega (arith, pow_pos n)) (omega (arith, e, parted q, f)))

  -- ---- a pattern is that of its own number
  pub again : (b : ℕ) → b < 2 ^ n → low_bits n (shr_z (value_in s n u b) u) ≡ b
  again b h = go (negative (integer s n) b) refl
    where
      down : (a q : ℕ) → suc a ≡ suc q * u → b + suc q ≡ 2 ^ n → 2 ^ n - 1 - a / u % 2 ^ n ≡ b
      down a q e f = ap (λ (z : ℕ). 2 ^ n - 1 - z % 2 ^ n) (below a q u unit e) ∙ ap (λ (z : ℕ). 2 ^ n - 1 - z) (mod-eq_of_lt (omega arith)) ∙ omega arith

      last : (m q : ℕ) → m ≡ suc q * u → b + suc q ≡ 2 ^ n → low_bits n (shr_z (neg_ℤ (pos m)) u) ≡ b
      last zero q e f = absurd (omega (arith, unit))
      last (suc a) q e f = down a q e f

      go : (f : Bool) → negative (integer s n) b ≡ f → low_bits n (shr_z (value_in s n u b) u) ≡ b
      go false f = ap (λ (z : ℤ). low_bits n (shr_z z u)) (plus s n u b f) ∙ ap (λ (z : ℕ). z % 2 ^ n) (mul-div_cancel b unit) ∙ mod-eq_of_lt h
      go true f = ap (λ (z : ℤ). low_bits n (shr_z z u)) (minus s n u b f) ∙ last ((2 ^ n - b) * u) (2 ^ n - b - 1) (ap (λ (z : ℕ). z * u) (omega arith)) (omega arith)

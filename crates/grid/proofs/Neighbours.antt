-- The two grid numbers about a magnitude n: q * u and (q + 1) * u, with no grid number between, and one of them even.
use mathlib.Core.Path.{◌≡◌, refl, sym, ap, subst, ◌∙◌}
use mathlib.Core.Logic.{◌⊎◌, inl, inr}
use mathlib.Core.Bool.{Bool, true, false, not}
use Prim.Native.Nat.{ℕ, suc, ◌+◌, ◌-◌, ◌*◌, ◌/◌, ◌%◌, ◌^◌, ◌≤◌, ◌<◌, max}
use native.Mathlib.Nat.{le_trans, le-suc, le_of_eq, lt_of_lt_of_le, lt_of_le_of_lt, div-add-mod', mod-lt, le-div_iff_mul-le, mul-le-mul_right, mul_assoc, eq_of_mul-eq-mul_right, le-max_left, pow-succ', sub-add_cancel}
use native.Mathlib.Omega.{arith}
use lib.Dec.{T, ltb, ltb→lt, nltb→le}
use lib.Ieee.{size}
use lib.Ieee.Digits.{size-lt, size_reaches}
use lib.Pow.{pow_pos, pow_mono, pow-add, shl_lt, shr_lt}
use Rattle.grid.specs.Grid.{Grid, whole, float, Written, OnMag, EvenMag, Sound}
use Rattle.grid.specs.Round.{unit_exp}

pub record Cell (g : Grid) (n q u : ℕ) : Type 0 where
  pub low : q * u ≤ n
  pub high : n < suc q * u
  pub on_low : OnMag g (q * u)
  pub on_high : OnMag g (suc q * u)
  pub gap : (z : ℕ) → OnMag g z → (z ≤ q * u) ⊎ (suc q * u ≤ z)
  pub even_low : q % 2 ≡ 0 → EvenMag g (q * u)
  pub odd_low : q % 2 ≡ 1 → EvenMag g (q * u) → ⊥
  pub even_high : q % 2 ≡ 1 → EvenMag g (suc q * u)
  pub odd_high : q % 2 ≡ 0 → EvenMag g (suc q * u) → ⊥

pub cut {ℓ} : {C : Type ℓ} (a b : ℕ) → (a < b → C) → (b ≤ a → C) → C
cut {C = C} a b f g = go (ltb a b) (ltb→lt a b) (nltb→le a b)
  where
    go : (c : Bool) → (T c → a < b) → (T (not c) → b ≤ a) → C
    go true h k = f (h tt)
    go false h k = g (k tt)

-- ---- a multiple of u, past q units, is q + 1 units at least
next : (a q u : ℕ) → (a * u ≤ q * u) ⊎ (suc q * u ≤ a * u)
next a q u = cut q a (λ (h : q < a). inr (mul-le-mul_right u h)) (λ (h : a ≤ q). inl (mul-le-mul_right u h))

pub pow_split : (k e : ℕ) → e ≤ k → 2 ^ k ≡ 2 ^ (k - e) * 2 ^ e
pow_split k e l = ap (λ (x : ℕ). 2 ^ x) (sym (sub-add_cancel l)) ∙ pow-add 2 (k - e) e

-- m * 2 ^ e in units of 2 ^ k, for k ≤ e
pub as_units : (m e k : ℕ) → k ≤ e → m * 2 ^ e ≡ m * 2 ^ (e - k) * 2 ^ k
as_units m e k h = ap (λ (x : ℕ). m * x) (pow_split e k h) ∙ sym (mul_assoc m (2 ^ (e - k)) (2 ^ k))

-- ---- a whole number of units: the facts that need no more
div_low : (n u : ℕ) → n / u * u ≤ n
div_low n u = omega (arith, div-add-mod' n u)

div_high : (n u : ℕ) → 0 < u → n < suc (n / u) * u
div_high n u h = omega (arith, div-add-mod' n u, mod-lt n h)

-- ---- the multiples of 2 ^ k
on_whole : (k m : ℕ) → OnMag (whole k) (m * 2 ^ k)
on_whole k m = record { m = m; e = k; written = (refl, refl) }

even_whole : (k m : ℕ) → m % 2 ≡ 0 → EvenMag (whole k) (m * 2 ^ k)
even_whole k m h = record { m = m; e = k; written = (refl, refl); least = λ m' e' w. le_of_eq (sym w.0); even = h }

odd_whole : (k m : ℕ) → m % 2 ≡ 1 → EvenMag (whole k) (m * 2 ^ k) → ⊥
odd_whole k m h v =
    let a : m * 2 ^ k ≡ v.m * 2 ^ k = v.written.1 ∙ ap (λ (x : ℕ). v.m * 2 ^ x) v.written.0 in
    let b : m ≡ v.m = eq_of_mul-eq-mul_right (2 ^ k) (pow_pos k) m v.m a in
    omega (arith, v.even)

gap_whole : (k q z : ℕ) → OnMag (whole k) z → (z ≤ q * 2 ^ k) ⊎ (suc q * 2 ^ k ≤ z)
gap_whole k q z v = subst (λ (x : ℕ). (x ≤ q * 2 ^ k) ⊎ (suc q * 2 ^ k ≤ x)) (sym (v.written.1 ∙ ap (λ (x : ℕ). v.m * 2 ^ x) v.written.0)) (next v.m q (2 ^ k))

even_suc : (q : ℕ) → q % 2 ≡ 1 → suc q % 2 ≡ 0
even_suc q h = omega arith

odd_suc : (q : ℕ) → q % 2 ≡ 0 → suc q % 2 ≡ 1
odd_suc q h = omega arith

pub cell_whole : (k n : ℕ) → Cell (whole k) n (n / 2 ^ k) (2 ^ k)
cell_whole k n = let q = n / 2 ^ k in record {
  low = div_low n (2 ^ k);
  high = div_high n (2 ^ k) (pow_pos k);
  on_low = on_whole k q;
  on_high = on_whole k (suc q);
  gap = gap_whole k q;
  even_low = even_whole k q;
  odd_low = odd_whole k q;
  even_high = λ h. even_whole k (suc q) (even_suc q h);
  odd_high = λ h. odd_whole k (suc q) (odd_suc q h);
}

-- ---- m * 2 ^ e with m below 2 ^ p and e at least s

pub pow_twice_pred : (p : ℕ) → 0 < p → 2 ^ p ≡ 2 * 2 ^ (p - 1)
pow_twice_pred p h = ap (λ (x : ℕ). 2 ^ x) (back p h) ∙ pow-succ' 2 (p - 1)
  where
    back : (p : ℕ) → 0 < p → p ≡ suc (p - 1)
    back p h = omega arith

-- with an e below k, the number is below 2 ^ (p - 1) units of 2 ^ k
short : (p m e k : ℕ) → 0 < p → m < 2 ^ p → e < k → m * 2 ^ e < 2 ^ (p - 1) * 2 ^ k
short p m e k P h l = lt_of_lt_of_le (shl_lt p e h) (le_trans (pow_mono (room p e k P l)) (le_of_eq (pow-add 2 (p - 1) k)))
  where
    room : (p e k : ℕ) → 0 < p → e < k → p + e ≤ p - 1 + k
    room p e k P l = omega arith

module _ (p s k m : ℕ) (two : 2 ≤ p) (sk : s ≤ k) (small : m ≤ 2 ^ p) (full : s < k → 2 ^ (p - 1) ≤ m) where
  P : 0 < p
  P = omega arith

  -- no e below k
  no_less : (m' e' : ℕ) → Written (float p s) (m * 2 ^ k) m' e' → k ≤ e'
  no_less m' e' w = cut e' k
      (λ (h : e' < k). let f = mul-le-mul_right (2 ^ k) (full (lt_of_le_of_lt w.1 h)) in
      absurd (omega (arith, short p m' e' k P w.0 h, f, w.2)))
      (λ h. h)

  -- written with k itself
  at_k : m < 2 ^ p → Written (float p s) (m * 2 ^ k) m k
  at_k h = (h, sk, refl)

  -- 2 ^ p units are 2 ^ (p - 1) of twice the unit
  at_top : 2 ^ p ≤ m → Written (float p s) (m * 2 ^ k) (2 ^ (p - 1)) (suc k)
  at_top h =
      let e : m ≡ 2 ^ p = omega arith in
      let a = pow_twice_pred p P in
      let b = pow_pos (p - 1) in
      (omega arith, omega arith, ap (λ (x : ℕ). x * 2 ^ k) (e ∙ a) ∙ omega (arith, ap (λ (x : ℕ). 2 ^ (p - 1) * x) (pow-succ' 2 k)))

  not_k : (m' e' : ℕ) → 2 ^ p ≤ m → Written (float p s) (m * 2 ^ k) m' e' → suc k ≤ e'
  not_k m' e' h w = cut k e' (λ l. l)
      (λ (l : e' ≤ k). let e : e' ≡ k = omega (arith, no_less m' e' w) in
      let a : m * 2 ^ k ≡ m' * 2 ^ k = w.2 ∙ ap (λ (x : ℕ). m' * 2 ^ x) e in
      let b : m ≡ m' = eq_of_mul-eq-mul_right (2 ^ k) (pow_pos k) m m' a in
      absurd (omega arith))

  on_float : OnMag (float p s) (m * 2 ^ k)
  on_float = cut m (2 ^ p)
      (λ (h : m < 2 ^ p). record { m = m; e = k; written = at_k h })
      (λ (h : 2 ^ p ≤ m). record { m = 2 ^ (p - 1); e = suc k; written = at_top h })

  even_float : m % 2 ≡ 0 → EvenMag (float p s) (m * 2 ^ k)
  even_float v = cut m (2 ^ p)
      (λ (h : m < 2 ^ p). record { m = m; e = k; written = at_k h; least = no_less; even = v })
      (λ (h : 2 ^ p ≤ m). record { m = 2 ^ (p - 1); e = suc k; written = at_top h; least = λ m' e' w. not_k m' e' h w; even = half_even p two })
    where
      half_even : (p : ℕ) → 2 ≤ p → 2 ^ (p - 1) % 2 ≡ 0
      half_even p h = omega (arith, pow_twice_pred (p - 1) (omega arith))

  odd_float : m % 2 ≡ 1 → EvenMag (float p s) (m * 2 ^ k) → ⊥
  odd_float o v =
      let h : m < 2 ^ p = omega (arith, pow_twice_pred p P) in
      let e : v.e ≡ k = omega (arith, v.least m k (at_k h), no_less v.m v.e v.written) in
      let a : m * 2 ^ k ≡ v.m * 2 ^ k = v.written.2 ∙ ap (λ (x : ℕ). v.m * 2 ^ x) e in
      let b : m ≡ v.m = eq_of_mul-eq-mul_right (2 ^ k) (pow_pos k) m v.m a in
      omega (arith, v.even)

  pub gap_float : (z : ℕ) → OnMag (float p s) z → (z ≤ m * 2 ^ k) ⊎ (suc m * 2 ^ k ≤ z)
  gap_float z v = cut v.e k
      (λ (h : v.e < k). let f = mul-le-mul_right (2 ^ k) (full (lt_of_le_of_lt v.written.1 h)) in
      inl (omega (arith, short p v.m v.e k P v.written.0 h, f, v.written.2)))
      (λ (h : k ≤ v.e). subst (λ (x : ℕ). (x ≤ m * 2 ^ k) ⊎ (suc m * 2 ^ k ≤ x)) (sym (v.written.2 ∙ as_units v.m v.e k h)) (next (v.m * 2 ^ (v.e - k)) m (2 ^ k)))

-- ---- the unit at n
pub kept_lt : (p s n : ℕ) → n / 2 ^ max s (size n - p) < 2 ^ p
kept_lt p s n = let k = max s (size n - p) in
    shr_lt p k (lt_of_lt_of_le (size-lt n) (pow_mono (omega arith)))

pub kept_full : (p s n : ℕ) → 2 ≤ p → s < max s (size n - p) → 2 ^ (p - 1) ≤ n / 2 ^ max s (size n - p)
kept_full p s n two h = let k = max s (size n - p) in
    (le-div_iff_mul-le (pow_pos k)).1 (le_trans (le_of_eq (sym (pow-add 2 (p - 1) k))) (size_reaches n (p - 1 + k) (omega arith)))

pub cell_float : (p s n : ℕ) → 2 ≤ p → Cell (float p s) n (n / 2 ^ max s (size n - p)) (2 ^ max s (size n - p))
cell_float p s n two =
    let k = max s (size n - p) in
    let q = n / 2 ^ k in
    let sk : s ≤ k = le-max_left s (size n - p) in
    let small : q < 2 ^ p = kept_lt p s n in
    let weak : q ≤ 2 ^ p = omega arith in
    let full : s < k → 2 ^ (p - 1) ≤ q = kept_full p s n two in
    let full' : s < k → 2 ^ (p - 1) ≤ suc q = λ h. le_trans (full h) (le-suc q) in
    record {
      low = div_low n (2 ^ k);
      high = div_high n (2 ^ k) (pow_pos k);
      on_low = on_float p s k q two sk weak full;
      on_high = on_float p s k (suc q) two sk small full';
      gap = gap_float p s k q two sk weak full;
      even_low = even_float p s k q two sk weak full;
      odd_low = odd_float p s k q two sk weak full;
      even_high = λ h. even_float p s k (suc q) two sk small full' (even_suc q h);
      odd_high = λ h. odd_float p s k (suc q) two sk small full' (odd_suc q h);
    }

pub cell : (g : Grid) → Sound g → (n : ℕ) → Cell g n (n / 2 ^ unit_exp g n) (2 ^ unit_exp g n)
cell (whole k) h n = cell_whole k n
cell (float p s) h n = cell_float p s n h

-- ---- a number of a float's grid is one of every finer grid
pub finer : (p s p' s' n : ℕ) → p ≤ p' → s' ≤ s → OnMag (float p s) n → OnMag (float p' s') n
finer p s p' s' n a b on = record { m = on.m; e = on.e; written = (lt_of_lt_of_le on.written.0 (pow_mono a), le_trans b on.written.1, on.written.2) }

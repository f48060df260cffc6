-- A NaN's fraction and its pattern at another precision: at a wider one the fraction's bits stand at the top, and by way of a wider one it is the same as at once.
use mathlib.Core.Path.{◌≡◌, sym, ap, ap₂, ◌∙◌}
use mathlib.Core.Bool.{Bool}
use mathlib.Core.Logic.{◌≢◌}
use Prim.Native.Nat.{ℕ, ◌+◌, ◌-◌, ◌*◌, ◌/◌, ◌%◌, ◌^◌, ◌≤◌, ◌<◌}
use native.Mathlib.Nat.{add_comm, add-zero, mod-eq_of_lt, mod-lt, mul_assoc, mul-div_cancel, mul-div-mul_right, mul-mod_left, one-mul}
use native.Mathlib.Omega.{arith}
use lib.Pow.{field, low, mod-mod-pow, mod-pow-add, pow-add, pow_pos}
use borrow.Author.Tests.{ne_eqb}
use Rattle.grid.proofs.Neighbours.{pow_twice_pred}
use Rattle.patterns.specs.Float.{inf_bits}
use Rattle.patterns.specs.Kind.{binary}
use Rattle.patterns.specs.Value.{negative}
use Rattle.patterns.specs.Pattern.{nan_pattern, quiet, with_sign}
use Rattle.patterns.proofs.Floats.{below_is, nan_lt, sign_is}

-- ---- with exponents that are sums
pub times_pow : (t j k : ℕ) → t * 2 ^ j * 2 ^ k ≡ t * 2 ^ (j + k)
times_pow t j k = mul_assoc t (2 ^ j) (2 ^ k) ∙ ap (λ (z : ℕ). t * z) (sym (pow-add 2 j k))

shift_both : (t u v c a : ℕ) → u + a ≡ v + c → t * 2 ^ u / 2 ^ v ≡ t * 2 ^ c / 2 ^ a
shift_both t u v c a e =
    sym (mul-div-mul_right (t * 2 ^ u) (2 ^ v) (pow_pos a))
    ∙ ap₂ ◌/◌ (times_pow t u a ∙ ap (λ (z : ℕ). t * 2 ^ z) (e ∙ add_comm v c) ∙ sym (times_pow t c v)) (sym (pow-add 2 v a) ∙ ap (λ (z : ℕ). 2 ^ z) (add_comm v a) ∙ pow-add 2 a v)
    ∙ mul-div-mul_right (t * 2 ^ c) (2 ^ a) (pow_pos v)

pub low_of_shifted : (t i u : ℕ) → t * 2 ^ u % 2 ^ (i + u) ≡ t % 2 ^ i * 2 ^ u
low_of_shifted t i u =
    mod-pow-add (t * 2 ^ u) i u
    ∙ ap₂ (λ (x y : ℕ). x % 2 ^ i * 2 ^ u + y) (mul-div_cancel t (pow_pos u)) (mul-mod_left t (2 ^ u))
    ∙ add-zero (t % 2 ^ i * 2 ^ u)

-- a bit over the places that are kept changes nothing below it
under_bit : (y e v : ℕ) → (2 ^ (e + v) + y % 2 ^ (e + v)) / 2 ^ v % 2 ^ e ≡ y / 2 ^ v % 2 ^ e
under_bit y e v =
    let k = e + v in
    sym (field (2 ^ k + y % 2 ^ k) e v)
    ∙ ap (λ (z : ℕ). z / 2 ^ v) (ap (λ (z : ℕ). (z + y % 2 ^ k) % 2 ^ k) (sym (one-mul (2 ^ k))) ∙ low 1 k (mod-lt y (pow_pos k)))
    ∙ field y e v

-- ---- from p significant bits to m, which are not fewer
module _ (p m b : ℕ) (some : 0 < p) (wider : p ≤ m) where
  abbrev t : ℕ
  t = b % 2 ^ (p - 1)

  abbrev Q : ℕ
  Q = 2 ^ (m - 2) + t * 2 ^ (m - p) % 2 ^ (m - 2)

  pub quiet_at_top : quiet p m b ≡ Q
  quiet_at_top = ap (λ (z : ℕ). 2 ^ (m - 2) + z % 2 ^ (m - 2)) (ap (λ (z : ℕ). z / 2 ^ (p - 1)) (ap (λ (z : ℕ). t * 2 ^ z) split ∙ sym (times_pow t (m - p) (p - 1))) ∙ mul-div_cancel (t * 2 ^ (m - p)) (pow_pos (p - 1)))
    where
      split : m - 1 ≡ m - p + (p - 1)
      split = omega arith

  -- and from there to p', which are not more than m
  pub quiet_through : (p' : ℕ) → 2 ≤ p' → p' ≤ m → quiet m p' (quiet p m b) ≡ quiet p p' b
  quiet_through p' two most =
      ap (quiet m p') quiet_at_top
      ∙ ap (λ (z : ℕ). 2 ^ (p' - 2) + z % 2 ^ (p' - 2)) (ap (λ (z : ℕ). z * 2 ^ (p' - 1) / 2 ^ (m - 1)) (mod-eq_of_lt inside) ∙ ap (λ (z : ℕ). Q * 2 ^ (p' - 1) / z) (ap (λ (z : ℕ). 2 ^ z) dropped ∙ pow-add 2 (m - p') (p' - 1)) ∙ mul-div-mul_right Q (2 ^ (m - p')) (pow_pos (p' - 1)))
      ∙ ap (λ (z : ℕ). 2 ^ (p' - 2) + (2 ^ z + t * 2 ^ (m - p) % 2 ^ z) / 2 ^ (m - p') % 2 ^ (p' - 2)) kept
      ∙ ap (λ (z : ℕ). 2 ^ (p' - 2) + z) (under_bit (t * 2 ^ (m - p)) (p' - 2) (m - p'))
      ∙ ap (λ (z : ℕ). 2 ^ (p' - 2) + z % 2 ^ (p' - 2)) (shift_both t (m - p) (m - p') (p' - 1) (p - 1) both)
    where
      one_less : m - 1 - 1 ≡ m - 2
      one_less = omega arith

      inside : Q < 2 ^ (m - 1)
      inside = omega (arith, mod-lt (t * 2 ^ (m - p)) (pow_pos (m - 2)), pow_twice_pred (m - 1) (omega arith), ap (λ (z : ℕ). 2 ^ z) one_less)

      dropped : m - 1 ≡ m - p' + (p' - 1)
      dropped = omega arith

      kept : m - 2 ≡ p' - 2 + (m - p')
      kept = omega arith

      both : m - p + (p - 1) ≡ m - p' + (p' - 1)
      both = omega arith

-- ---- below an infinity's bits
pub quiet_lt : (p p' b : ℕ) → 2 ≤ p' → quiet p p' b < 2 ^ (p' - 1)
quiet_lt p p' b two = omega (arith, mod-lt (b % 2 ^ (p - 1) * 2 ^ (p' - 1) / 2 ^ (p - 1)) (pow_pos (p' - 2)), pow_twice_pred (p' - 1) (omega arith), ap (λ (z : ℕ). 2 ^ z) one_less)
  where
    one_less : p' - 1 - 1 ≡ p' - 2
    one_less = omega arith

-- ---- a NaN's pattern of p significant bits, by way of a format of m, at p'
module _ (p w s m W S b : ℕ) (some : 0 < p) (wider : p < m) (positive : 0 < W) where
  abbrev neg : Bool
  neg = negative (binary p w s) b

  abbrev between : ℕ
  between = with_sign (W + m) neg (inf_bits m W + quiet p m b)

  under : inf_bits m W + quiet p m b < 2 ^ (W + m - 1)
  under = nan_lt m W S (omega arith) positive (quiet p m b) (quiet_lt p m b (omega arith))

  between_fraction : between % 2 ^ (m - 1) ≡ quiet p m b
  between_fraction =
      sym (mod-mod-pow between W (m - 1))
      ∙ ap (λ (z : ℕ). between % 2 ^ z % 2 ^ (m - 1)) places
      ∙ ap (λ (z : ℕ). z % 2 ^ (m - 1)) (below_is m W S (omega arith) positive neg (inf_bits m W + quiet p m b) under)
      ∙ low (2 ^ W - 1) (m - 1) (quiet_lt p m b (omega arith))
    where
      places : W + (m - 1) ≡ W + m - 1
      places = omega arith

  between_quiet : (p' : ℕ) → 2 ≤ p' → p' < m → quiet m p' between ≡ quiet p p' b
  between_quiet p' two less =
      ap (λ (z : ℕ). 2 ^ (p' - 2) + z * 2 ^ (p' - 1) / 2 ^ (m - 1) % 2 ^ (p' - 2)) (between_fraction ∙ sym (mod-eq_of_lt (quiet_lt p m b (omega arith))))
      ∙ quiet_through p m b some (omega arith) p' two (omega arith)

  pub nan_through : (p' w' : ℕ) → 2 ≤ p' → p' < m → p ≢ p' → nan_pattern (binary m W S) p' w' (nan_pattern (binary p w s) m W b) ≡ nan_pattern (binary p w s) p' w' b
  unfolding nan_pattern
  nan_through p' w' two less other =
      ap (nan_pattern (binary m W S) p' w') wide
      ∙ simp (ne_eqb m p' (λ (e : m ≡ p'). omega arith)) (ap₂ (λ (n : Bool) (z : ℕ). with_sign (w' + p') n (inf_bits p' w' + z)) (sign_is m W S (omega arith) positive neg (inf_bits m W + quiet p m b) under) (between_quiet p' two less))
      ∙ sym here
    where
      wide : nan_pattern (binary p w s) m W b ≡ between
      wide = simp (ne_eqb p m (λ (e : p ≡ m). omega arith))

      here : nan_pattern (binary p w s) p' w' b ≡ with_sign (w' + p') neg (inf_bits p' w' + quiet p p' b)
      here = simp (ne_eqb p p' other)

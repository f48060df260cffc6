-- The sum of bytes by places: one place up is 256 times as much, and the bytes of a number sum to it.
use mathlib.Core.Path.{◌≡◌, refl, sym, ap, ◌∙◌}
use mathlib.Core.List.{List, [], ◌∷◌, ◌++◌}
use Prim.Native.Nat.{ℕ, zero, suc, ◌+◌, ◌*◌, ◌/◌, ◌%◌, ◌^◌, ◌<◌}
use native.Mathlib.Nat.{mod-one, add_comm, mul_comm, mul-one, mul_assoc, one-le-pow, pow-suc, zero-lt-suc, mod-eq_of_lt}
use native.Mathlib.Omega.{arith}
use lib.Arith.{mod-mul}
use lib.Pow.{pow-add}
use lib.ListN.{length}
use Rattle.bytes_le.specs.Bytes.{sum_from, from_le, to_le}

-- a byte first, and 256 times the sum of the rest
sum_up : (i : ℕ) (xs : List ℕ) → sum_from (suc i) xs ≡ 256 * sum_from i xs
sum_up i [] = refl
sum_up i (x ∷ xs) =
    ap (λ (z : ℕ). x * 256 ^ suc i + z) (sum_up (suc i) xs)
    ∙ ap (λ (z : ℕ). x * z + 256 * sum_from (suc i) xs) (pow-suc 256 i)
    ∙ regroup x (256 ^ i) (sum_from (suc i) xs)
  where
    regroup : (x p t : ℕ) → x * (p * 256) + 256 * t ≡ 256 * (x * p + t)
    regroup x p t = omega (arith, sym (mul_assoc x p 256))

pub from_le_cons : (x : ℕ) (xs : List ℕ) → from_le (x ∷ xs) ≡ x + 256 * from_le xs
from_le_cons x xs = ap (λ (z : ℕ). z + sum_from 1 xs) (mul-one x) ∙ ap (λ (z : ℕ). x + z) (sum_up 0 xs)

pub from_le-append : (x y : List ℕ) → from_le (x ++ y) ≡ from_le x + 256 ^ length x * from_le y
from_le-append [] y = omega arith
from_le-append (a ∷ x) y =
    from_le_cons a (x ++ y)
    ∙ ap (λ (z : ℕ). a + 256 * z) (from_le-append x y)
    ∙ regroup (256 ^ length x) (from_le x) (from_le y)
    ∙ ap (λ (z : ℕ). a + 256 * from_le x + z * from_le y) (sym (pow-suc 256 (length x)))
    ∙ ap (λ (z : ℕ). z + 256 ^ suc (length x) * from_le y) (sym (from_le_cons a x))
  where
    regroup : (p l t : ℕ) → a + 256 * (l + p * t) ≡ a + 256 * l + p * 256 * t
    regroup p l t = omega arith

pub length-to_le : (n v : ℕ) → length (to_le n v) ≡ n
length-to_le zero v = refl
length-to_le (suc n) v = ap suc (length-to_le n _)

pub from_le-to_le : (n v : ℕ) → from_le (to_le n v) ≡ v % 256 ^ n
from_le-to_le zero v = sym (mod-one v)
from_le-to_le (suc n) v =
    from_le_cons (v % 256) (to_le n (v / 256))
    ∙ ap (λ (z : ℕ). v % 256 + 256 * z) (from_le-to_le n (v / 256))
    ∙ add_comm (v % 256) (256 * (v / 256 % 256 ^ n))
    ∙ ap (λ (z : ℕ). z + v % 256) (mul_comm 256 (v / 256 % 256 ^ n))
    ∙ sym (mod-mul v (one-le-pow n 256 (zero-lt-suc 255)) (zero-lt-suc 255))
    ∙ ap (λ (z : ℕ). v % z) (sym (pow-suc 256 n))

-- writing then reading gives the pattern back
pub from_le-to_le_fits : (n v : ℕ) → v < 256 ^ n → from_le (to_le n v) ≡ v
from_le-to_le_fits n v h = from_le-to_le n v ∙ mod-eq_of_lt h

-- 8 bits to a byte
pub byte_patterns : (n : ℕ) → 256 ^ n ≡ 2 ^ (8 * n)
byte_patterns zero = refl
byte_patterns (suc n) = pow-suc 256 n ∙ ap (λ (z : ℕ). z * 256) (byte_patterns n) ∙ sym (pow-add 2 (8 * n) 8) ∙ ap (λ (z : ℕ). 2 ^ z) (omega arith)

-- How many significant bits a number has, by its leading zeros.
use Rattle.std.proofs.Common.{◌≡◌, ℕ, ◌+◌, ◌-◌, ◌*◌, ◌^◌, ◌<◌, ◌≤◌, le_trans, arith, pow_mono}
use lib.Count.{count_leading_zeros, leading_unique}
use lib.Ieee.{size}
use lib.Ieee.Digits.{size-lt, size-le, size_reaches}
use Rattle.grid.proofs.Neighbours.{cut, pow_twice_pred}

-- a number of z bits is at least half of 2 ^ z, but for 0
reaches : (a : ℕ) → 2 ^ size a ≤ 2 * a + 1
reaches a = cut 0 (size a)
    (λ (l : 0 < size a). omega (arith, size_reaches a (size a - 1) (omega arith), pow_twice_pred (size a) l))
    (λ (l : size a ≤ 0). le_trans (pow_mono l) (omega arith))

pub leading_size : (k a : ℕ) → a < 2 ^ k → count_leading_zeros k a + size a ≡ k
leading_size k a h =
    let l : size a ≤ k = size-le a k h in
    let e : k - size a ≡ count_leading_zeros k a = leading_unique k a (k - size a) (size a) (omega arith) (size-lt a) (reaches a) in
    omega arith

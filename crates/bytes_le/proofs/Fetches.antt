-- A fetch: the sum of bytes by their index is the number of these bytes, and no other number has them.
use mathlib.Core.Path.{◌≡◌, refl, sym, ap, ap₂, subst, ◌∙◌}
use mathlib.Core.List.{List, [], ◌∷◌, ◌++◌}
use Prim.Native.Nat.{ℕ, zero, suc, ◌+◌, ◌*◌, ◌%◌, ◌^◌, ◌≤◌, ◌<◌}
use native.Mathlib.Nat.{le_of_eq, le_trans, lt_of_lt_of_le, mul_comm, pow-suc}
use native.Mathlib.Numerals.{add-one}
use native.Mathlib.Omega.{arith}
use lib.ListN.{length, get_or, take, drop, length-drop}
use lib.Pow.{pow_mono, shl_exact}
use lib.Seq.{get_or-drop, length-take-le, take-suc}
use Rattle.bytes_le.specs.Bytes.{from_le, to_le, pattern_at}
use Rattle.bytes_le.specs.Fetch.{sum_at, Fetched}
use Rattle.bytes_le.proofs.Sums.{byte_patterns, from_le-append, from_le_cons, from_le-to_le_fits}
use Rattle.bytes_le.proofs.Unique.{AreBytes, append_bytes, drop_bytes, take_bytes, to_le-from_le}

-- the bytes of s from a on, up to one more
one_byte_more : (s : List ℕ) (a k : ℕ) → a + suc k ≤ length s → take (suc k) (drop a s) ≡ take k (drop a s) ++ (get_or s (a + k) 0 ∷ [])
one_byte_more s a k h = take-suc (drop a s) k 0 (subst (λ (z : ℕ). k < z) (sym (length-drop a s)) (omega arith)) ∙ ap (λ (b : ℕ). take k (drop a s) ++ (b ∷ [])) (get_or-drop a s k 0)

length_from : (s : List ℕ) (a w : ℕ) → a + w ≤ length s → length (take w (drop a s)) ≡ w
length_from s a w h = length-take-le w (drop a s) (subst (λ (z : ℕ). w ≤ z) (sym (length-drop a s)) (omega arith))

-- ---- the sum by index is the number of the bytes, of any width
pub sum_is_number : (s : List ℕ) (a w : ℕ) → a + w ≤ length s → sum_at s a w ≡ from_le (take w (drop a s))
sum_is_number s a zero h = refl
sum_is_number s a (suc k) h =
    ap₂ (λ (x y : ℕ). x + y) (sum_is_number s a k (omega arith)) (mul_comm b (256 ^ k) ∙ ap₂ (λ (n x : ℕ). 256 ^ n * x) (sym (length_from s a k (omega arith))) (alone b))
    ∙ sym (from_le-append (take k (drop a s)) (b ∷ []))
    ∙ ap from_le (sym (one_byte_more s a k h))
  where
    b : ℕ
    b = get_or s (a + k) 0

    alone : (x : ℕ) → x ≡ from_le (x ∷ [])
    alone x = sym (from_le_cons x [] ∙ omega arith)

-- ---- it is below 256 to the width
number_below : (xs : List ℕ) → AreBytes xs → from_le xs < 256 ^ length xs
number_below [] h = omega arith
number_below (x ∷ xs) h = omega (arith, from_le_cons x xs, pow-suc 256 (length xs), h.0, number_below xs h.1)

-- ---- and the only number that has these bytes
pub sum_is_fetched : (s : List ℕ) (a w r : ℕ) → a + w ≤ length s → AreBytes (take w (drop a s)) → r ≡ sum_at s a w → Fetched s a w r
sum_is_fetched s a w r h bytes e = record { sum = e; pattern = is; fits = below; bytes = has; only = only }
  where
    is : r ≡ from_le (take w (drop a s))
    is = e ∙ sum_is_number s a w h

    long : length (take w (drop a s)) ≡ w
    long = length_from s a w h

    below : r < 256 ^ w
    below = subst (λ (z : ℕ). z < 256 ^ w) (sym is) (subst (λ (n : ℕ). from_le (take w (drop a s)) < 256 ^ n) long (number_below (take w (drop a s)) bytes))

    has : to_le w r ≡ take w (drop a s)
    has = ap₂ to_le (sym long) is ∙ to_le-from_le (take w (drop a s)) bytes

    only : (v : ℕ) → v < 256 ^ w → to_le w v ≡ take w (drop a s) → v ≡ r
    only v l same = sym (from_le-to_le_fits w v l) ∙ ap from_le same ∙ sym is

-- so for every position of a chunk of bytes
pub pattern_is_fetched : (s : List ℕ) (w i : ℕ) → AreBytes s → (i + 1) * w ≤ length s → Fetched s (i * w) w (pattern_at w s i)
pattern_is_fetched s w i bytes h = sum_is_fetched s (i * w) w (pattern_at w s i) within (take_bytes w (drop (i * w) s) (drop_bytes (i * w) s bytes)) (sym (sum_is_number s (i * w) w within))
  where
    within : i * w + w ≤ length s
    within = omega arith

-- ---- the loop: the first k of the w bytes are summed to v
pub record Summed (s : List ℕ) (a w k v : ℕ) : Type 0 where
  pub order : k ≤ w
  pub sum : v ≡ sum_at s a k
  pub bytes : AreBytes (take k (drop a s))

pub none_summed : (s : List ℕ) (a w : ℕ) → Summed s a w 0 0
none_summed s a w = record { order = omega arith; sum = refl; bytes = tt }

module _ (s : List ℕ) (a w k v : ℕ) (so_far : Summed s a w k v) where
  pub all_summed : w ≤ k → a + w ≤ length s → Fetched s a w v
  all_summed done h = let e : k ≡ w = omega (arith, so_far.order) in sum_is_fetched s a w v h (subst (λ (n : ℕ). AreBytes (take n (drop a s))) e so_far.bytes) (so_far.sum ∙ ap (sum_at s a) e)

  -- the byte at k is moved up by 8 bits for each place in front of it: 256 to the k times as much
  module _ (more : k < w) (few : w ≤ 8) (h : a + w ≤ length s) (byte : get_or s (a + k) 0 < 256) where
    pub one_more_summed : Summed s a w (k + 1) (v + get_or s (a + k) 0 * 2 ^ (8 * k) % 2 ^ 64)
    one_more_summed = record {
      order = omega arith;
      sum = ap₂ (λ (x y : ℕ). x + y) so_far.sum (shl_exact 8 (8 * k) 64 byte (omega arith) ∙ ap (λ (z : ℕ). get_or s (a + k) 0 * z) (sym (byte_patterns k))) ∙ ap (sum_at s a) (sym (add-one k));
      bytes = subst (λ (n : ℕ). AreBytes (take n (drop a s))) (sym (add-one k)) (subst AreBytes (sym (one_byte_more s a k (omega arith))) (append_bytes (take k (drop a s)) (get_or s (a + k) 0 ∷ []) so_far.bytes (byte, tt)));
    }

    -- and the sum of at most 8 bytes does not overrun
    pub sum_fits : v + get_or s (a + k) 0 * 2 ^ (8 * k) % 2 ^ 64 < 2 ^ 64
    sum_fits = lt_of_lt_of_le (sum_is_fetched s a (k + 1) _ (omega arith) one_more_summed.bytes one_more_summed.sum).fits (le_trans (le_of_eq (byte_patterns (k + 1))) (pow_mono {i = 8 * (k + 1)} {j = 64} (omega arith)))

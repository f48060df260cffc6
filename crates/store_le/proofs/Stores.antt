-- A store: bytes that are put one by one, from the lowest up, are the bytes of the number, and what is put is fetched again.
use mathlib.Core.Path.{◌≡◌, refl, sym, ap, ap₂, subst, ◌∙◌}
use mathlib.Core.List.{List, ◌∷◌, ◌++◌, append_assoc}
use Prim.Native.Nat.{ℕ, zero, suc, ◌+◌, ◌*◌, ◌/◌, ◌%◌, ◌^◌, ◌≤◌, ◌<◌}
use native.Mathlib.Nat.{add-zero, div-div-eq-div-mul, div-one, mod-lt, mul_comm, pow-suc, zero-add, zero-lt-suc}
use native.Mathlib.Omega.{arith}
use lib.ListN.{length, get_or, set, take, drop, length-append, length-drop, length-set, length-take, take-append-drop}
use lib.Seq.{append_snoc, drop_at, drop-cons, length-take-le, set_at, take_at}
use Rattle.bytes_le.specs.Bytes.{from_le, to_le, put}
use Rattle.bytes_le.specs.Fetch.{Fetched}
use Rattle.bytes_le.proofs.Fetches.{sum_is_fetched, sum_is_number}
use Rattle.bytes_le.proofs.Sums.{byte_patterns, from_le-to_le_fits, length-to_le}
use Rattle.bytes_le.proofs.Unique.{AreBytes}

-- the lowest i bytes, and then j bytes of what is left
pub to_le_split : (i j v : ℕ) → to_le i v ++ to_le j (v / 256 ^ i) ≡ to_le (i + j) v
to_le_split zero j v = ap (λ (z : ℕ). to_le j z) (div-one v) ∙ ap (λ (z : ℕ). to_le z v) (sym (zero-add j))
to_le_split (suc i) j v =
    ap (λ (z : ℕ). v % 256 ∷ (to_le i (v / 256) ++ to_le j z)) (ap (λ (z : ℕ). v / z) (pow-suc 256 i ∙ mul_comm (256 ^ i) 256) ∙ sym (div-div-eq-div-mul v 256 (256 ^ i)))
    ∙ ap (λ (z : List ℕ). v % 256 ∷ z) (to_le_split i j (v / 256))
    ∙ ap (λ (z : ℕ). to_le z v) (s+ i j)
  where
    s+ : (i j : ℕ) → suc (i + j) ≡ suc i + j
    s+ i j = omega arith

-- ---- what is put is fetched again
to_le-bytes : (n v : ℕ) → AreBytes (to_le n v)
to_le-bytes zero v = tt
to_le-bytes (suc n) v = (mod-lt v (zero-lt-suc 255), to_le-bytes n (v / 256))

pub put_is_fetched : (d : List ℕ) (a w v : ℕ) → a + w ≤ length d → v < 256 ^ w → Fetched (put d a w v) a w v
put_is_fetched d a w v room small = sum_is_fetched (put d a w v) a w v within (subst AreBytes (sym here) (to_le-bytes w v)) (sym (sum_is_number (put d a w v) a w within ∙ ap from_le here ∙ from_le-to_le_fits w v small))
  where
    here : take w (drop a (put d a w v)) ≡ to_le w v
    here = ap (take w) (drop_at (take a d) (to_le w v ++ drop (a + w) d) a (length-take-le a d (omega arith))) ∙ take_at (to_le w v) (drop (a + w) d) w (length-to_le w v)

    within : a + w ≤ length (put d a w v)
    within = simp (length-append, length-take, length-to_le, length-drop) (omega arith)

-- ---- the loop: the lowest k of w bytes of v are put at the place a of d, which is d' now
pub record Stored (d : List ℕ) (a w v k : ℕ) (d' : List ℕ) : Type 0 where
  pub order : k ≤ w
  pub same : length d' ≡ length d
  pub is : d' ≡ put d a k v

module _ (d : List ℕ) (a w v : ℕ) where
  pub none_stored : Stored d a w v 0 d
  none_stored = record { order = omega arith; same = refl; is = sym (take-append-drop a d) ∙ ap (λ (n : ℕ). take a d ++ drop n d) (sym (add-zero a)) }

  module _ (k : ℕ) (d' : List ℕ) (so_far : Stored d a w v k d') where
    pub all_stored : w ≤ k → d' ≡ put d a w v
    all_stored done = let e : k ≡ w = omega (arith, so_far.order) in so_far.is ∙ ap (λ (n : ℕ). put d a n v) e

    pub one_more_stored : k < w → a + w ≤ length d → Stored d a w v (k + 1) (set d' (a + k) (v / 2 ^ (8 * k) % 256))
    one_more_stored more room = record {
      order = omega arith;
      same = length-set d' (a + k) _ ∙ so_far.same;
      is = ap₂ (λ (l : List ℕ) (p : ℕ). set l (a + k) (v / p % 256)) (so_far.is ∙ split) (sym (byte_patterns k)) ∙ set_at front (get_or d (a + k) 0) (drop (suc (a + k)) d) (v / 256 ^ k % 256) (a + k) long ∙ joined;
    }
      where
        front : List ℕ
        front = take a d ++ to_le k v

        long : length front ≡ a + k
        long = length-append (take a d) (to_le k v) ∙ ap₂ (λ (x y : ℕ). x + y) (length-take-le a d (omega arith)) (length-to_le k v)

        split : put d a k v ≡ front ++ get_or d (a + k) 0 ∷ drop (suc (a + k)) d
        split = sym (append_assoc (take a d) (to_le k v) (drop (a + k) d)) ∙ ap (λ (l : List ℕ). front ++ l) (drop-cons d (a + k) 0 (omega arith))

        joined : front ++ v / 256 ^ k % 256 ∷ drop (suc (a + k)) d ≡ put d a (k + 1) v
        joined =
            append_assoc (take a d) (to_le k v) (v / 256 ^ k % 256 ∷ drop (suc (a + k)) d)
            ∙ ap (λ (l : List ℕ). take a d ++ l) (sym (append_snoc (to_le k v) (v / 256 ^ k % 256) (drop (suc (a + k)) d)))
            ∙ ap₂ (λ (l : List ℕ) (n : ℕ). take a d ++ (l ++ drop n d)) (to_le_split k 1 v) (next a k)
          where
            next : (a k : ℕ) → suc (a + k) ≡ a + (k + 1)
            next a k = omega arith

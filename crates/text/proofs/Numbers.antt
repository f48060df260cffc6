-- Digits from the lowest on, and the fewest that write a number.
use mathlib.Core.Path.{◌≡◌, refl, sym, ap, ap₂, subst, ◌∙◌}
use mathlib.Core.Bool.{Bool, true, false, cond}
use mathlib.Core.List.{List, ◌∷◌, ◌++◌}
use Prim.Native.Nat.{ℕ, zero, suc, ◌+◌, ◌-◌, ◌/◌, ◌%◌, ◌^◌, ◌≤◌, ◌<◌}
use native.Mathlib.Nat.{div-one, div-div-eq-div-mul, pow-suc, pow-zero, pow-le-pow_right, zero-lt-suc, lt_of_lt_of_le, sub-add_cancel, suc-add, zero-add}
use native.Mathlib.Omega.{arith}
use lib.Dec.{leb}
use lib.ListN.{length, get_or, set, take, drop, take-append-drop}
use lib.Seq.{length-take-le, take-suc, set_at, append_snoc}
use borrow.Author.Tests.{lt-leb, le-leb, leb-true, leb-false}
use Rattle.grid.proofs.Neighbours.{cut}
use Rattle.text.specs.Text.{glyph_of, digits, places_up_to, places, decimal}
use Rattle.text.specs.Wrote.{Wrote}

pub length_digits : (b k v : ℕ) → length (digits b k v) ≡ k
length_digits b zero v = refl
length_digits b (suc k) v = ap suc (length_digits b k _)

-- ---- the lowest j of k digits stand before the place a + k
pub record DigitsAt (d : List ℕ) (a b k v to rest : ℕ) (d' : List ℕ) : Type 0 where
  pub j : ℕ
  pub place : to + j ≡ a + k
  pub start : a ≤ to
  pub left : rest ≡ v / b ^ j
  pub bytes : d' ≡ take to d ++ (digits b j v ++ drop (a + k) d)
  pub same : length d' ≡ length d

module _ (d : List ℕ) (a b k v : ℕ) (room : a + k ≤ length d) where
  pub digits_start : DigitsAt d a b k v (a + k) v d
  digits_start = record { j = 0; place = omega arith; start = omega arith; left = sym (ap (λ (z : ℕ). v / z) (pow-zero b) ∙ div-one v); bytes = sym (take-append-drop (a + k) d); same = refl }

  module _ (to rest : ℕ) (d' : List ℕ) (at : DigitsAt d a b k v to rest d') where
    pub digits_go_on : (to' : ℕ) → to ≡ suc to' → a ≤ to' → (c : ℕ) → c ≡ glyph_of (rest % b) → DigitsAt d a b k v to' (rest / b) (set d' to' c)
    digits_go_on to' e h c is = record {
      j = suc at.j;
      place = omega (arith, at.place);
      start = h;
      left = ap (λ (z : ℕ). z / b) at.left ∙ div-div-eq-div-mul v (b ^ at.j) b ∙ ap (λ (z : ℕ). v / z) (sym (pow-suc b at.j));
      bytes = ap (λ (z : List ℕ). set z to' c) at.bytes
          ∙ ap (λ (z : ℕ). set (take z d ++ rest_bytes) to' c) e
          ∙ ap (λ (z : List ℕ). set (z ++ rest_bytes) to' c) (take-suc d to' 0 inside)
          ∙ ap (λ (z : List ℕ). set z to' c) (append_snoc (take to' d) (get_or d to' 0) rest_bytes)
          ∙ set_at (take to' d) (get_or d to' 0) rest_bytes c to' (length-take-le to' d (omega (arith, inside)))
          ∙ ap (λ (z : ℕ). take to' d ++ z ∷ rest_bytes) (is ∙ ap (λ (z : ℕ). glyph_of (z % b)) at.left);
      same = (simp lib.ListN.length-set refl) ∙ at.same;
    }
      where
        rest_bytes : List ℕ
        rest_bytes = digits b at.j v ++ drop (a + k) d

        inside : to' < length d
        inside = omega (arith, at.place)

    pub digits_end : to ≤ a → Wrote d a (digits b k v) (a + k) d'
    digits_end h =
        let z : to ≡ a = omega (arith, at.start) in
        let all : at.j ≡ k = omega (arith, at.place) in record {
          next = ap (λ (n : ℕ). a + n) (sym (length_digits b k v));
          within = room;
          bytes = at.bytes ∙ ap₂ (λ (x y : ℕ). take x d ++ (digits b y v ++ drop (a + k) d)) z all;
        }

-- ---- how many decimal digits: those of a number below 10^(n + 1) need no power past 10^n
few_places : (n m v : ℕ) → v < 10 ^ suc n → places_up_to (m + n) v ≡ places_up_to n v
few_places n zero v h = ap (λ (z : ℕ). places_up_to z v) (zero-add n)
few_places n (suc m) v h =
    ap (λ (z : ℕ). places_up_to z v) (suc-add m n)
    ∙ ap (λ (z : Bool). cond z (suc (suc (m + n))) (places_up_to (m + n) v)) (lt-leb (10 ^ suc (m + n)) v (lt_of_lt_of_le h (pow-le-pow_right (zero-lt-suc 9) {i = suc n} {j = suc (m + n)} (omega arith))))
    ∙ few_places n m v h

up_to : (n v : ℕ) → n ≤ v → v < 10 ^ suc n → places_up_to n v ≡ places v
up_to n v l h = sym (ap (λ (z : ℕ). places_up_to z v) (sym (sub-add_cancel l)) ∙ few_places n (v - n) v h)

pub one_place : (v : ℕ) → v < 10 → 1 ≡ places v
one_place v h = up_to 0 v (omega arith) h

pub places_are : (n v : ℕ) → suc n ≤ v → 10 ^ suc n ≤ v → v < 10 ^ suc (suc n) → suc (suc n) ≡ places v
places_are n v l low h = sym (ap (λ (z : Bool). cond z (suc (suc n)) (places_up_to n v)) (le-leb (10 ^ suc n) v low)) ∙ up_to (suc n) v l h

-- a number below 10,000 has at most four
up_to_most : (n v : ℕ) → places_up_to n v ≤ suc n
up_to_most zero v = omega arith
up_to_most (suc n) v = either (leb (10 ^ suc n) v) (up_to_most n v)
  where
    either : (t : Bool) → places_up_to n v ≤ suc n → cond t (suc (suc n)) (places_up_to n v) ≤ suc (suc n)
    either true h = omega arith
    either false h = omega arith

pub four_places : (v : ℕ) → v < 10000 → places v ≤ 4
four_places v h = cut v 10 (λ (l : v < 10). omega (arith, one_place v l)) (λ (m : 10 ≤ v). subst (λ (z : ℕ). z ≤ 4) (up_to 3 v (omega arith) h) (up_to_most 3 v))

-- ---- decimal numbers of at most four digits
pub decimal_short : (v : ℕ) → v < 10000 → length (decimal v) ≤ 4
decimal_short v h = subst (λ (z : ℕ). z ≤ 4) (sym (length_digits 10 (places v) v)) (four_places v h)

pub decimal_one : (v : ℕ) → v < 10 → length (decimal v) ≡ 1
decimal_one v h = length_digits 10 (places v) v ∙ sym (one_place v h)

pub decimal_room : (d : List ℕ) (a v k : ℕ) → v < 10000 → a + 4 ≤ length d → k ≡ places v → a + k ≤ length d
decimal_room d a v k h room e = omega (arith, four_places v h)

pub decimal_by : (d : List ℕ) (a v k r : ℕ) (d' : List ℕ) → k ≡ places v → Wrote d a (digits 10 k v) r d' → Wrote d a (decimal v) r d'
decimal_by d a v k r d' e w = subst (λ (z : ℕ). Wrote d a (digits 10 z v) r d') e w

-- ---- the definition's places are the fewest that write a number
pub record Fewest (v k : ℕ) : Type 0 where
  pub fits : v < 10 ^ k
  pub fewest : (j : ℕ) → k ≡ suc (suc j) → 10 ^ suc j ≤ v

up_to_fewest : (n v : ℕ) → v < 10 ^ suc n → Fewest v (places_up_to n v)
up_to_fewest zero v h = record { fits = h; fewest = λ j e. absurd (omega arith) }
up_to_fewest (suc n) v h = either (leb (10 ^ suc n) v) (leb-true (10 ^ suc n) v) (λ e. up_to_fewest n v (leb-false (10 ^ suc n) v e))
  where
    either : (t : Bool) → (t ≡ true → 10 ^ suc n ≤ v) → (t ≡ false → Fewest v (places_up_to n v)) → Fewest v (cond t (suc (suc n)) (places_up_to n v))
    either true low f = record { fits = h; fewest = λ j e. subst (λ (z : ℕ). 10 ^ suc z ≤ v) (less n j e) (low refl) }
      where
        less : (n j : ℕ) → suc (suc n) ≡ suc (suc j) → n ≡ j
        less n j e = omega arith
    either false low f = f refl

past_power : (n : ℕ) → n < 10 ^ suc n
past_power zero = omega arith
past_power (suc n) = omega (arith, past_power n, pow-suc 10 (suc n))

pub places_fewest : (v : ℕ) → Fewest v (places v)
places_fewest v = up_to_fewest v v (past_power v)

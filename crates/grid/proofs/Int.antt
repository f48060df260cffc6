-- ℤ for `omega`: each number by its two parts, one of which is 0.
use mathlib.Core.Path.{◌≡◌, refl, ap, ◌∙◌}
use mathlib.Core.Bool.{Bool, true, false, not, cond}
use Prim.Native.Nat.{ℕ, zero, suc, ◌+◌, ◌-◌, ◌≤◌, ◌<◌, min}
use native.Mathlib.Omega.{arith}
use lib.Dec.{T, ltb, leb→le, le→leb, ltb→lt, lt→ltb, nltb→le}
use lib.IntN.{ℤ, pos, negsuc, neg_ℤ, nat_abs, sub_ℕ}
use lib.Signed.{◌≤ℤ◌, ◌<ℤ◌, lt_z, lt_z_yes, lt_z_no}
use Rattle.grid.specs.Pick.{dist}

abbrev pub up : ℤ → ℕ
up (pos n) = n
up (negsuc n) = 0

abbrev pub dn : ℤ → ℕ
dn (pos n) = 0
dn (negsuc n) = suc n

pub one_part : (x : ℤ) → min (up x) (dn x) ≡ 0
one_part (pos n) = omega arith
one_part (negsuc n) = omega arith

pub le→ : (x y : ℤ) → x ≤ℤ y → up x + dn y ≤ up y + dn x
le→ (pos a) (pos b) h = omega (arith, leb→le a b h.le)
le→ (pos a) (negsuc b) h = absurd h.le
le→ (negsuc a) (pos b) h = omega arith
le→ (negsuc a) (negsuc b) h = omega (arith, leb→le b a h.le)

pub →le : (x y : ℤ) → up x + dn y ≤ up y + dn x → x ≤ℤ y
→le (pos a) (pos b) h = record { le = le→leb a b (omega arith) }
→le (pos a) (negsuc b) h = absurd (omega arith)
→le (negsuc a) (pos b) h = record { le = tt }
→le (negsuc a) (negsuc b) h = record { le = le→leb b a (omega arith) }

pub lt→ : (x y : ℤ) → x <ℤ y → up x + dn y < up y + dn x
lt→ (pos a) (pos b) h = omega (arith, ltb→lt a b h.lt)
lt→ (pos a) (negsuc b) h = absurd h.lt
lt→ (negsuc a) (pos b) h = omega arith
lt→ (negsuc a) (negsuc b) h = omega (arith, ltb→lt b a h.lt)

pub →lt : (x y : ℤ) → up x + dn y < up y + dn x → x <ℤ y
→lt (pos a) (pos b) h = record { lt = lt→ltb a b (omega arith) }
→lt (pos a) (negsuc b) h = absurd (omega arith)
→lt (negsuc a) (pos b) h = record { lt = tt }
→lt (negsuc a) (negsuc b) h = record { lt = lt→ltb b a (omega arith) }

pub →eq : (x y : ℤ) → up x + dn y ≡ up y + dn x → x ≡ y
→eq (pos a) (pos b) h = ap pos (omega arith)
→eq (pos a) (negsuc b) h = absurd (omega arith)
→eq (negsuc a) (pos b) h = absurd (omega arith)
→eq (negsuc a) (negsuc b) h = ap negsuc (omega arith)

pub abs_is : (x : ℤ) → nat_abs x ≡ up x + dn x
abs_is (pos n) = omega arith
abs_is (negsuc n) = omega arith

pub up_neg : (x : ℤ) → up (neg_ℤ x) ≡ dn x
up_neg (pos zero) = refl
up_neg (pos (suc n)) = refl
up_neg (negsuc n) = refl

pub dn_neg : (x : ℤ) → dn (neg_ℤ x) ≡ up x
dn_neg (pos zero) = refl
dn_neg (pos (suc n)) = refl
dn_neg (negsuc n) = refl

sub_abs : (a b : ℕ) → nat_abs (sub_ℕ a b) ≡ (a - b) + (b - a)
sub_abs a b = go (ltb a b) (ltb→lt a b) (nltb→le a b)
  where
    go : (c : Bool) → (T c → a < b) → (T (not c) → b ≤ a) → nat_abs (cond c (negsuc (b - suc a)) (pos (a - b))) ≡ (a - b) + (b - a)
    go true h k = let l : a < b = h tt in omega arith
    go false h k = let l : b ≤ a = k tt in omega arith

pub sub_parts : (a b : ℕ) → up (sub_ℕ a b) + b ≡ dn (sub_ℕ a b) + a
sub_parts a b = go (ltb a b) (ltb→lt a b) (nltb→le a b)
  where
    go : (c : Bool) → (T c → a < b) → (T (not c) → b ≤ a) → up (cond c (negsuc (b - suc a)) (pos (a - b))) + b ≡ dn (cond c (negsuc (b - suc a)) (pos (a - b))) + a
    go true h k = let l : a < b = h tt in omega arith
    go false h k = let l : b ≤ a = k tt in omega arith

pub dist_is : (x y : ℤ) → dist x y ≡ ((up x + dn y) - (up y + dn x)) + ((up y + dn x) - (up x + dn y))
unfolding dist
dist_is (pos a) (pos zero) = omega arith
dist_is (pos a) (pos (suc b)) = sub_abs a (suc b) ∙ omega arith
dist_is (pos a) (negsuc b) = omega arith
dist_is (negsuc a) (pos zero) = sub_abs 0 (suc a) ∙ omega arith
dist_is (negsuc a) (pos (suc b)) = omega arith
dist_is (negsuc a) (negsuc b) = sub_abs (suc b) (suc a) ∙ omega arith

pub split {ℓ} : {C : Type ℓ} (x y : ℤ) → (x <ℤ y → C) → (y ≤ℤ x → C) → C
split {C = C} x y f g = go (lt_z x y) lt_z_yes lt_z_no
  where
    go : (b : Bool) → (T b → x <ℤ y) → (T (not b) → y ≤ℤ x) → C
    go true h k = f (h tt)
    go false h k = g (k tt)

pub ruleset ints = (arith, le→, →le, lt→, →lt)

-- the distance without a case: to a number above, and to one below
pub dist_up : (x y : ℤ) → x ≤ℤ y → dist x y + (up x + dn y) ≡ up y + dn x
dist_up x y h = omega (ints, dist_is x y)

pub dist_dn : (x y : ℤ) → y ≤ℤ x → dist x y + (up y + dn x) ≡ up x + dn y
dist_dn x y h = omega (ints, dist_is x y)

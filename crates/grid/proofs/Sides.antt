-- Where a pick lies is told by the order of the two numbers; of two numbers of one sign by their magnitudes; and of a step by its rest.
use mathlib.Core.Path.{◌≡◌, refl, sym, ap, ap₂, ◌∙◌, subst}
use mathlib.Core.Logic.{◌↔◌}
use mathlib.Core.Bool.{Bool, true, false, not, cond, beq}
use Prim.Native.Nat.{ℕ, zero, suc, ◌+◌, ◌*◌, ◌^◌, ◌≤◌, ◌<◌}
use native.Mathlib.Nat.{add-zero, le_antisymm, mul_assoc, mul-lt-mul_of_pos_right, suc-add, zero-add, zero-mul}
use native.Mathlib.Omega.{arith}
use lib.Dec.{T, eqb, ltb, lt→ltb, eqb-suc-suc, leb-suc-suc}
use lib.Pow.{pow-add, pow_pos}
use lib.IntN.{ℤ, pos, neg_ℤ}
use lib.Signed.{◌<ℤ◌, ◌≤ℤ◌, lt_z, lt_z_yes, lt_z_no}
use borrow.Author.Tests.{eq-eqb, ne_eqb, lt-ltb, le-ltb}
use Rattle.grid.specs.Round.{signed, step}
use Rattle.grid.specs.Ternary.{ternary_of}
use Rattle.grid.specs.declared.RoundingMode.{RoundingMode}
use Rattle.grid.specs.declared.Ternary.{Ternary}
use Rattle.grid.specs.declared.Ternary.TheVariants.{Exact, Below, Above}
use Rattle.grid.proofs.Int.{ints, →eq, →lt, up_neg, dn_neg}
use Rattle.grid.proofs.Neighbours.{cut}
use Rattle.grid.proofs.Step.{step_either, step_no_rest}

-- ---- by the order of the numbers
by_order : (P : Ternary → Type 0) (x y : ℤ) → (y <ℤ x → P Below) → (x <ℤ y → P Above) → (y ≡ x → P Exact) → P (ternary_of x y)
unfolding ternary_of
by_order P x y f g h = go (lt_z y x) lt_z_yes lt_z_no
  where
    then : (b : Bool) → x ≤ℤ y → (T b → x <ℤ y) → (T (not b) → y ≤ℤ x) → P (cond b Above Exact)
    then true m k o = g (k tt)
    then false m k o = let l : y ≤ℤ x = o tt in h (→eq y x (omega ints))

    go : (b : Bool) → (T b → y <ℤ x) → (T (not b) → x ≤ℤ y) → P (cond b Below (cond (lt_z x y) Above Exact))
    go true k o = f (k tt)
    go false k o = then (lt_z x y) (o tt) lt_z_yes lt_z_no

pub below_is : (x y : ℤ) → y <ℤ x → ternary_of x y ≡ Below
below_is x y l = by_order (λ (t : Ternary). t ≡ Below) x y (λ _. refl) (λ (k : x <ℤ y). absurd (omega ints)) (λ (e : y ≡ x). absurd (lt_same e l))
  where
    lt_same : y ≡ x → y <ℤ x → ⊥
    lt_same e l = let k : x <ℤ x = subst (λ (z : ℤ). z <ℤ x) e l in omega ints

pub above_is : (x y : ℤ) → x <ℤ y → ternary_of x y ≡ Above
above_is x y l = by_order (λ (t : Ternary). t ≡ Above) x y (λ (k : y <ℤ x). absurd (omega ints)) (λ _. refl) (λ (e : y ≡ x). absurd (lt_same e))
  where
    lt_same : y ≡ x → ⊥
    lt_same e = let k : x <ℤ x = subst (λ (z : ℤ). x <ℤ z) e l in omega ints

pub exact_is : (x y : ℤ) → y ≡ x → ternary_of x y ≡ Exact
exact_is x y e = subst (λ (z : ℤ). ternary_of x z ≡ Exact) (sym e) (by_order (λ (t : Ternary). t ≡ Exact) x x (λ (k : x <ℤ x). absurd (omega ints)) (λ (k : x <ℤ x). absurd (omega ints)) (λ _. refl))

-- ---- what each says, and that it says no other
abbrev pub Says : Ternary → ℤ → ℤ → Type 0
Says Exact x y = y ≡ x
Says Below x y = y <ℤ x
Says Above x y = x <ℤ y

pub says : (x y : ℤ) → Says (ternary_of x y) x y
says x y = by_order (λ (t : Ternary). Says t x y) x y (λ l. l) (λ l. l) (λ e. e)

pub ternary_says : (t : Ternary) (x y : ℤ) → (ternary_of x y ≡ t) ↔ Says t x y
ternary_says t x y = (λ e. subst (λ (z : Ternary). Says z x y) e (says x y), back t)
  where
    back : (t : Ternary) → Says t x y → ternary_of x y ≡ t
    back Exact e = exact_is x y e
    back Below l = below_is x y l
    back Above l = above_is x y l

-- ---- by magnitudes: whether the pick's is the element's own, and whether it is the larger
abbrev pub told : Bool → Bool → Bool → Ternary
told exact larger neg = cond exact Exact (cond (beq larger neg) Below Above)

signed_lt : (m n : ℕ) → m < n → (signed false m <ℤ signed false n) × (signed true n <ℤ signed true m)
signed_lt m n l = (record { lt = lt→ltb m n l }, below m n l)
  where
    below : (m n : ℕ) → m < n → neg_ℤ (pos n) <ℤ neg_ℤ (pos m)
    below m n l = →lt (neg_ℤ (pos n)) (neg_ℤ (pos m)) (omega (arith, up_neg (pos n), up_neg (pos m), dn_neg (pos n), dn_neg (pos m)))

pub by_magnitude : (neg : Bool) (m n : ℕ) → told (eqb m n) (ltb m n) neg ≡ ternary_of (signed neg m) (signed neg n)
by_magnitude neg m n = cut m n
    (λ (l : m < n). ap (λ (b : Bool). told b (ltb m n) neg) (ne_eqb m n (λ (e : m ≡ n). omega arith)) ∙ ap (λ (b : Bool). told false b neg) (lt-ltb m n l) ∙ sym (larger neg l))
    (λ (k : n ≤ m). cut n m
    (λ (l : n < m). ap (λ (b : Bool). told b (ltb m n) neg) (ne_eqb m n (λ (e : m ≡ n). omega arith)) ∙ ap (λ (b : Bool). told false b neg) (le-ltb m n k) ∙ sym (smaller neg l))
    (λ (l : m ≤ n). let e : m ≡ n = le_antisymm l k in ap (λ (b : Bool). told b (ltb m n) neg) (eq-eqb m n e) ∙ sym (exact_is (signed neg m) (signed neg n) (ap (signed neg) (sym e)))))
  where
    larger : (neg : Bool) → m < n → ternary_of (signed neg m) (signed neg n) ≡ told false true neg
    larger false l = above_is (signed false m) (signed false n) (signed_lt m n l).0
    larger true l = below_is (signed true m) (signed true n) (signed_lt m n l).1

    smaller : (neg : Bool) → n < m → ternary_of (signed neg m) (signed neg n) ≡ told false false neg
    smaller false l = below_is (signed false m) (signed false n) (signed_lt n m l).0
    smaller true l = above_is (signed true m) (signed true n) (signed_lt n m l).1

-- what a program tells by its own tests
pub told_is : (exact larger neg : Bool) (t : Ternary) → t ≡ told exact larger neg → (m n : ℕ) → exact ≡ eqb m n → larger ≡ ltb m n → t ≡ ternary_of (signed neg m) (signed neg n)
told_is exact larger neg t is m n e l = is ∙ ap₂ (λ (a b : Bool). told a b neg) e l ∙ by_magnitude neg m n

-- magnitudes in one order lie alike, and so do both times a number
pub same_side : (neg : Bool) (m n m' n' : ℕ) → eqb m n ≡ eqb m' n' → ltb m n ≡ ltb m' n' → ternary_of (signed neg m) (signed neg n) ≡ ternary_of (signed neg m') (signed neg n')
same_side neg m n m' n' e l = sym (by_magnitude neg m n) ∙ ap₂ (λ (a b : Bool). told a b neg) e l ∙ by_magnitude neg m' n'

pub side_scale : (neg : Bool) (m n c : ℕ) → 0 < c → ternary_of (signed neg (m * c)) (signed neg (n * c)) ≡ ternary_of (signed neg m) (signed neg n)
side_scale neg m n c h = cut m n
    (λ (l : m < n). let k : m * c < n * c = mul-lt-mul_of_pos_right l h in same_side neg (m * c) (n * c) m n (ne_eqb _ _ (λ (e : m * c ≡ n * c). omega arith) ∙ sym (ne_eqb m n (λ (e : m ≡ n). omega arith))) (lt-ltb _ _ k ∙ sym (lt-ltb m n l)))
    (λ (o : n ≤ m). cut n m
    (λ (l : n < m). let k : n * c < m * c = mul-lt-mul_of_pos_right l h in same_side neg (m * c) (n * c) m n (ne_eqb _ _ (λ (e : m * c ≡ n * c). omega arith) ∙ sym (ne_eqb m n (λ (e : m ≡ n). omega arith))) (le-ltb (m * c) (n * c) (omega arith) ∙ sym (le-ltb m n o)))
    (λ (l : m ≤ n). let e : m ≡ n = le_antisymm l o in exact_is _ _ (ap (λ (z : ℕ). signed neg (z * c)) (sym e)) ∙ sym (exact_is _ _ (ap (signed neg) (sym e)))))

-- ---- beside a magnitude with a number more, times a power of two, and below both of two units
pub side_more : (neg : Bool) (m n c : ℕ) → ternary_of (signed neg (c + m)) (signed neg (c + n)) ≡ ternary_of (signed neg m) (signed neg n)
side_more neg m n zero = ap₂ (λ (a b : ℕ). ternary_of (signed neg a) (signed neg b)) (zero-add m) (zero-add n)
side_more neg m n (suc c) =
    ap₂ (λ (a b : ℕ). ternary_of (signed neg a) (signed neg b)) (suc-add c m) (suc-add c n)
    ∙ same_side neg (suc (c + m)) (suc (c + n)) (c + m) (c + n) (eqb-suc-suc (c + m) (c + n)) (leb-suc-suc (suc (c + m)) (c + n))
    ∙ side_more neg m n c

-- q units of 2^j beside m, and of 2^(j + e) beside m × 2^e
pub side_power : (neg : Bool) (m q j e : ℕ) → ternary_of (signed neg m) (signed neg (q * 2 ^ j)) ≡ ternary_of (signed neg (m * 2 ^ e)) (signed neg (q * 2 ^ (j + e)))
side_power neg m q j e =
    sym (side_scale neg m (q * 2 ^ j) (2 ^ e) (pow_pos e))
    ∙ ap (λ (z : ℕ). ternary_of (signed neg (m * 2 ^ e)) (signed neg z)) (mul_assoc q (2 ^ j) (2 ^ e) ∙ ap (λ (z : ℕ). q * z) (sym (pow-add 2 j e)))

pub side_under : (neg : Bool) (n q u v : ℕ) → n < u → n < v → ternary_of (signed neg n) (signed neg (q * u)) ≡ ternary_of (signed neg n) (signed neg (q * v))
side_under neg n zero u v h k = ap (λ (z : ℕ). ternary_of (signed neg n) (signed neg z)) (zero-mul u ∙ sym (zero-mul v))
side_under neg n (suc q) u v h k =
    same_side neg n (suc q * u) n (suc q * v)
    (ne_eqb n (suc q * u) (λ (e : n ≡ suc q * u). omega arith) ∙ sym (ne_eqb n (suc q * v) (λ (e : n ≡ suc q * v). omega arith)))
    (lt-ltb n (suc q * u) (omega arith) ∙ sym (lt-ltb n (suc q * v) (omega arith)))

-- ---- of a step from q units of u and a rest x: it is exact where there is no rest, and goes up where it leaves q
module _ (r : RoundingMode) (q x u : ℕ) (some : 0 < u) (few : x < u) where
  pub step_exact : eqb (q * u + x) (step r q x u * u) ≡ eqb x 0
  step_exact = none x refl
    where
      none : (y : ℕ) → x ≡ y → eqb (q * u + x) (step r q x u * u) ≡ eqb x 0
      none zero e = eq-eqb _ _ (subst (λ (y : ℕ). q * u + y ≡ step r q y u * u) (sym e) (add-zero (q * u) ∙ ap (λ (s : ℕ). s * u) (sym (step_no_rest r q u some)))) ∙ sym (eq-eqb x 0 e)
      none (suc y) e = step_either (λ (s : ℕ). eqb (q * u + x) (s * u) ≡ eqb x 0) r q x u
          (ne_eqb _ _ (λ (d : q * u + x ≡ q * u). omega arith) ∙ sym (ne_eqb x 0 (λ (d : x ≡ 0). omega arith)))
          (ne_eqb _ _ (λ (d : q * u + x ≡ suc q * u). omega arith) ∙ sym (ne_eqb x 0 (λ (d : x ≡ 0). omega arith)))

  pub step_larger : ltb (q * u + x) (step r q x u * u) ≡ ltb q (step r q x u)
  step_larger = step_either (λ (s : ℕ). ltb (q * u + x) (s * u) ≡ ltb q s) r q x u
      (le-ltb (q * u + x) (q * u) (omega arith) ∙ sym (le-ltb q q (omega arith)))
      (lt-ltb (q * u + x) (suc q * u) (omega arith) ∙ sym (lt-ltb q (suc q) (omega arith)))

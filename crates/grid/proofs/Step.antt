-- What `step` comes to: q or q + 1, by three tests of the rest.
use mathlib.Core.Path.{◌≡◌, refl, sym, subst, ◌∙◌}
use mathlib.Core.Bool.{Bool, true, false, not, cond}
use Prim.Native.Nat.{ℕ, zero, suc, ◌*◌, ◌%◌, ◌≤◌, ◌<◌}
use native.Mathlib.Nat.{le_refl, le-suc}
use native.Mathlib.Omega.{arith}
use lib.Dec.{lt→ltb, T, ltb, eqb, ltb→lt, nltb→le, eqb-suc-zero}
use Rattle.grid.specs.Round.{step}
use Rattle.grid.specs.declared.RoundingMode.{RoundingMode}
use Rattle.grid.specs.declared.RoundingMode.TheVariants.{NearestEven, TowardsZero, TowardsPositive, TowardsNegative, NearestAway}

-- ---- a property of both ways of a test
pub by_lt : (P : ℕ → Type 0) (a b x y : ℕ) → (a < b → P x) → (b ≤ a → P y) → P (cond (ltb a b) x y)
by_lt P a b x y f g = go (ltb a b) (ltb→lt a b) (nltb→le a b)
  where
    go : (c : Bool) → (T c → a < b) → (T (not c) → b ≤ a) → P (cond c x y)
    go true h k = f (h tt)
    go false h k = g (k tt)

pub by_zero : (P : ℕ → Type 0) (a x y : ℕ) → (a ≡ 0 → P x) → (0 < a → P y) → P (cond (eqb a 0) x y)
by_zero P zero x y f g = f refl
by_zero P (suc a) x y f g = subst (λ (c : Bool). P (cond c x y)) (sym (eqb-suc-zero a)) (g (omega arith))

-- ---- a step goes to q or to q + 1, so whatever holds of both holds of it
pub step_either : (P : ℕ → Type 0) (r : RoundingMode) (q x u : ℕ) → P q → P (suc q) → P (step r q x u)
step_either P NearestEven q x u a b = by_lt P (x * 2) u q _ (λ _. a) (λ _. by_lt P u (x * 2) (suc q) _ (λ _. b) (λ _. by_zero P (q % 2) q (suc q) (λ _. a) (λ _. b)))
step_either P TowardsZero q x u a b = a
step_either P TowardsPositive q x u a b = by_zero P x q (suc q) (λ _. a) (λ _. b)
step_either P TowardsNegative q x u a b = a
step_either P NearestAway q x u a b = by_lt P (x * 2) u q (suc q) (λ _. a) (λ _. b)

pub step_ge : (r : RoundingMode) (q x u : ℕ) → q ≤ step r q x u
step_ge r q x u = step_either (λ (v : ℕ). q ≤ v) r q x u (le_refl q) (le-suc q)

pub step_le : (r : RoundingMode) (q x u : ℕ) → step r q x u ≤ suc q
step_le r q x u = step_either (λ (v : ℕ). v ≤ suc q) r q x u (le-suc q) (le_refl (suc q))

-- ---- two rests that answer the three tests alike are stepped alike
ext : (a b : Bool) → (T a → T b) → (T b → T a) → a ≡ b
ext true true f g = refl
ext true false f g = absurd (f tt)
ext false true f g = absurd (g tt)
ext false false f g = refl

eqb_same : (x y : ℕ) → (x ≡ 0 → y ≡ 0) → (y ≡ 0 → x ≡ 0) → eqb x 0 ≡ eqb y 0
eqb_same zero zero f g = refl
eqb_same zero (suc y) f g = absurd (omega (arith, f refl))
eqb_same (suc x) zero f g = absurd (omega (arith, g refl))
eqb_same (suc x) (suc y) f g = eqb-suc-zero x ∙ sym (eqb-suc-zero y)

ltb_same : (a b c d : ℕ) → (a < b → c < d) → (c < d → a < b) → ltb a b ≡ ltb c d
ltb_same a b c d f g = ext (ltb a b) (ltb c d) (λ t. lt→ltb c d (f (ltb→lt a b t))) (λ t. lt→ltb a b (g (ltb→lt c d t)))

module _ (r : RoundingMode) (q x u y v : ℕ) (zero→ : x ≡ 0 → y ≡ 0) (→zero : y ≡ 0 → x ≡ 0) (low→ : x * 2 < u → y * 2 < v) (→low : y * 2 < v → x * 2 < u) (high→ : u < x * 2 → v < y * 2) (→high : v < y * 2 → u < x * 2) where
  pub step_alike : step r q x u ≡ step r q y v
  step_alike = go r (eqb_same x y zero→ →zero) (ltb_same (x * 2) u (y * 2) v low→ →low) (ltb_same u (x * 2) v (y * 2) high→ →high)
    where
      go : (r : RoundingMode) → eqb x 0 ≡ eqb y 0 → ltb (x * 2) u ≡ ltb (y * 2) v → ltb u (x * 2) ≡ ltb v (y * 2) → step r q x u ≡ step r q y v
      go NearestEven z l h = rw (l, h)
      go TowardsZero z l h = refl
      go TowardsPositive z l h = rw z
      go TowardsNegative z l h = refl
      go NearestAway z l h = rw l

-- where there is no rest, q stays
pub step_no_rest : (r : RoundingMode) (q u : ℕ) → 0 < u → step r q 0 u ≡ q
step_no_rest NearestEven q u h = by_lt (λ (v : ℕ). v ≡ q) (0 * 2) u q _ (λ _. refl) (λ (l : u ≤ 0 * 2). absurd (omega arith))
step_no_rest TowardsZero q u h = refl
step_no_rest TowardsPositive q u h = refl
step_no_rest TowardsNegative q u h = refl
step_no_rest NearestAway q u h = by_lt (λ (v : ℕ). v ≡ q) (0 * 2) u q (suc q) (λ _. refl) (λ (l : u ≤ 0 * 2). absurd (omega arith))

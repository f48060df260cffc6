-- When a rule steps up, by the tests that a program makes, for q units of u and a rest x.
use Rattle.std.proofs.Common.{◌≡◌, ℕ, suc, ◌+◌, ◌-◌, ◌*◌, ◌%◌, ◌<◌, ◌≤◌, Bool, true, false, cond, ltb, leb, sym, ◌∙◌, le_refl, arith, le-ltb, lt-ltb, le-leb}
use borrow.Author.Tests.{lt-leb}
use Rattle.grid.specs.declared.RoundingMode.{RoundingMode}
use Rattle.grid.specs.declared.RoundingMode.TheVariants.{NearestEven, TowardsZero, TowardsPositive, TowardsNegative, NearestAway}
use Rattle.grid.specs.Round.{step, rule_for}
use Rattle.grid.proofs.Step.{by_lt, by_zero, step_either}
use Rattle.integer_rounding.specs.Precision.{steps_up}

stays : (q : ℕ) → ltb q q ≡ false
stays q = le-ltb q q (le_refl q)

grows : (q : ℕ) → ltb q (suc q) ≡ true
grows q = lt-ltb q (suc q) (omega arith)

-- ---- a step is q, and one more where it goes up
pub step_by_up : (r : RoundingMode) (q x u : ℕ) → step r q x u ≡ q + cond (steps_up r q x u) 1 0
step_by_up r q x u = step_either (λ (v : ℕ). v ≡ q + cond (ltb q v) 1 0) r q x u (rw (stays q) (omega arith)) (rw (grows q) (omega arith))

-- ---- the tests, for a number of either sign
module _ (q x u : ℕ) (l : x < u) where
  even : ltb (u - x) (x + q % 2) ≡ steps_up NearestEven q x u
  even = by_lt P (x * 2) u q _
      (λ (h : x * 2 < u). le-ltb (u - x) (x + q % 2) (omega arith) ∙ sym (stays q))
      (λ (h : u ≤ x * 2). by_lt P u (x * 2) (suc q) _
      (λ (k : u < x * 2). lt-ltb (u - x) (x + q % 2) (omega arith) ∙ sym (grows q))
      (λ (k : x * 2 ≤ u). by_zero P (q % 2) q (suc q)
      (λ (v : q % 2 ≡ 0). le-ltb (u - x) (x + q % 2) (omega arith) ∙ sym (stays q))
      (λ (v : 0 < q % 2). lt-ltb (u - x) (x + q % 2) (omega arith) ∙ sym (grows q))))
    where
      P : ℕ → Type 0
      P v = ltb (u - x) (x + q % 2) ≡ ltb q v

  away : leb (u - x) x ≡ steps_up NearestAway q x u
  away = by_lt (λ (v : ℕ). leb (u - x) x ≡ ltb q v) (x * 2) u q (suc q)
      (λ (h : x * 2 < u). lt-leb (u - x) x (omega arith) ∙ sym (stays q))
      (λ (h : u ≤ x * 2). le-leb (u - x) x (omega arith) ∙ sym (grows q))

  outward : ltb 0 x ≡ steps_up TowardsPositive q x u
  outward = by_zero (λ (v : ℕ). ltb 0 x ≡ ltb q v) x q (suc q)
      (λ (h : x ≡ 0). le-ltb 0 x (omega arith) ∙ sym (stays q))
      (λ (h : 0 < x). lt-ltb 0 x h ∙ sym (grows q))

  pub even_up : (neg : Bool) → ltb (u - x) (x + q % 2) ≡ steps_up (rule_for neg NearestEven) q x u
  even_up true = even
  even_up false = even

  pub away_up : (neg : Bool) → leb (u - x) x ≡ steps_up (rule_for neg NearestAway) q x u
  away_up true = away
  away_up false = away

  pub zero_up : (neg : Bool) → false ≡ steps_up (rule_for neg TowardsZero) q x u
  zero_up true = sym (stays q)
  zero_up false = sym (stays q)

  pub positive_up : (neg : Bool) → cond neg false (ltb 0 x) ≡ steps_up (rule_for neg TowardsPositive) q x u
  positive_up true = sym (stays q)
  positive_up false = outward

  pub negative_up : (neg : Bool) → cond neg (ltb 0 x) false ≡ steps_up (rule_for neg TowardsNegative) q x u
  negative_up true = outward
  negative_up false = sym (stays q)

-- Demand 3 holds of the answer and the destination that the definitions give, whatever the inputs are.
use mathlib.Core.Path.{◌≡◌, refl, sym, subst}
use mathlib.Core.Bool.{◌&&◌, not}
use Prim.Native.Nat.{ℕ, zero, suc, ◌<◌}
use native.Mathlib.Nat.{mul-pos, zero-add}
use native.Mathlib.Omega.{arith}
use lib.Dec.{T, eqb, lit<, lit≤}
use lib.IntN.{ℤ}
use lib.Pow.{pow_pos}
use Rattle.patterns.specs.Kind.{Kind, integer, binary, is_float, WellFormed}
use Rattle.kinds.specs.Table.{kind_of}
use Rattle.codes.specs.Codes.{range_of}
use Rattle.patterns.specs.Value.{Value, value_of}
use Rattle.cast_spec.specs.Chunk.{Inputs, Call, Reached, dw, settings_of, call_of, outcome_at, answer_from, answer_of, bytes_from, destination_of, result_at}
use Rattle.bytes_le.specs.Bytes.{pattern_at}
use Rattle.cast_spec.specs.Demand3.{Taken, Rounded, Demand3}
use Rattle.kinds.proofs.Listed.{by_any_code}
use Rattle.cast_spec.proofs.Checks.{answer_is, destination_is, range_listed, wrap_permitted_lem}
use Rattle.cast_spec.proofs.Each.{Served, WrapsFloat, each_of}
use Rattle.cast_spec.proofs.Places.{served}
use Rattle.cast_spec.proofs.Order.{order_of}
use Rattle.cast_spec.proofs.Widths.{kind_fits}
use Rattle.answers.specs.Outcome.{Answer}

-- ---- any call whose answer and places are as the outcomes say, whatever its route
pub demand3_of : (c : Call) (r : Answer) (res : ℕ → Value) → WellFormed c.settings.to → (T c.passed → WrapsFloat c.settings.to c.settings.range → ⊥) → ((i : ℕ) → Reached c i → Served c.settings.to r (res i) i (outcome_at c i)) → Demand3 c r res
demand3_of c r res ok free f = record { each = each; order = order_of c r res each }
  where
    each : (i : ℕ) (x : ℤ) → Taken c i x → Rounded c.settings r (res i) i x
    each i x t = each_of c r (res i) i x ok (free t.reached.passed) t (f i t.reached)

-- ---- the eleven kinds are as the laws ask
pub good : (c : ℕ) → WellFormed (kind_of c)
good = by_any_code WellFormed (λ s c. mul-pos (lit< tt) (pow_pos c)) (lit≤ tt, lit< tt) (lit≤ tt, lit< tt) (lit≤ tt, lit< tt)

module _ (I : Inputs) where
  pub to_is : (call_of I).settings.to ≡ kind_of I.to
  unfolding call_of settings_of
  to_is = refl

  -- no call that passes its checks wraps to a float
  pub no_float_wrapped : T (call_of I).passed → WrapsFloat (call_of I).settings.to (call_of I).settings.range → ⊥
  unfolding call_of settings_of
  no_float_wrapped t = go (kind_of I.to) I.range (range_listed I t) (wrap_permitted_lem I t)
    where
      go : (k : Kind) (g : ℕ) → g < 3 → T (not (eqb g 2 && is_float k)) → WrapsFloat k (range_of g) → ⊥
      go (integer s n) g l h e = e
      go (binary p w s) zero l h e = e
      go (binary p w s) (suc zero) l h e = e
      go (binary p w s) (suc (suc zero)) l h e = h
      go (binary p w s) (suc (suc (suc g))) l h e = omega arith

  pub at_place : (i : ℕ) → Reached (call_of I) i → Served (kind_of I.to) (answer_of I) (result_at I (destination_of I) i) i (outcome_at (call_of I) i)
  unfolding result_at
  at_place i R =
      let c = call_of I in
      let k = kind_of I.to in
      rw (answer_is I R.passed, destination_is I R.passed)
      (subst (λ (z : ℕ). Served k (answer_from (outcome_at c) 0 c.count) (value_of k (pattern_at (dw I) (bytes_from (outcome_at c) (dw I) 0 c.count I.destination) i)) z (outcome_at c z)) (zero-add i)
      (served (outcome_at c) (dw I) k i 0 c.count I.destination (kind_fits I.to) R.within (λ j a b. R.before j (subst (λ (z : ℕ). j < z) (zero-add i) b))))

  pub demand3 : Demand3 (call_of I) (answer_of I) (result_at I (destination_of I))
  demand3 = demand3_of (call_of I) (answer_of I) (result_at I (destination_of I)) (subst WellFormed (sym to_is) (good I.to)) no_float_wrapped
      (λ i R. subst (λ (k : Kind). Served k (answer_of I) (result_at I (destination_of I) i) i (outcome_at (call_of I) i)) (sym to_is) (at_place i R))

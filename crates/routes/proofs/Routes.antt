-- The route of two rows of the table: it has their rows, and its kinds are theirs.
use mathlib.Core.Path.{◌≡◌, refl, sym, ap, ◌∙◌}
use mathlib.Core.Bool.{Bool, true, false, cond, ◌&&◌, beq}
use Prim.Native.Nat.{ℕ}
use native.Mathlib.Omega.{arith}
use lib.Dec.{eqb}
use borrow.Author.Tests.{eqb-true, eqb-false}
use Rattle.patterns.specs.Kind.{integer}
use Rattle.kinds.specs.Row.{float_of, kind_in, FloatRow, FormatRow}
use Rattle.kinds.specs.declared.FloatFormat.{FloatFormat}
use Rattle.kinds.specs.declared.Format.{Format}
use Rattle.kinds.specs.declared.Format.TheVariants.{Integer, Float}
use Rattle.kinds.proofs.FloatRows.{by_row, half, single, double}
use Rattle.routes.specs.Route.{RouteRow, route_of, source_of, target_of}
use Rattle.routes.specs.declared.Route.TheVariants.{Same, IntToInt, FloatToFloat}

pub route_row : (s t : Format) → FormatRow s → FormatRow t → RouteRow (route_of s t)
route_row (Integer f) (Integer t) a b = go (eqb f.bits t.bits && beq f.signed t.signed)
  where
    go : (c : Bool) → RouteRow (cond c (Same (Integer f)) (IntToInt f t))
    go true = a
    go false = (a, b)
route_row (Integer f) (Float t) a b = (a, b)
route_row (Float f) (Integer t) a b = (a, b)
route_row (Float f) (Float t) a b = go (eqb f.precision t.precision) refl
  where
    go : (c : Bool) → eqb f.precision t.precision ≡ c → RouteRow (cond c (Same (Float f)) (FloatToFloat f t))
    go true e = a
    go false e = (a, b, eqb-false f.precision t.precision e)

pub source_kind : (s t : Format) → source_of (route_of s t) ≡ kind_in s
source_kind (Integer f) (Integer t) = go (eqb f.bits t.bits && beq f.signed t.signed)
  where
    go : (c : Bool) → source_of (cond c (Same (Integer f)) (IntToInt f t)) ≡ kind_in (Integer f)
    go true = refl
    go false = refl
source_kind (Integer f) (Float t) = refl
source_kind (Float f) (Integer t) = refl
source_kind (Float f) (Float t) = go (eqb f.precision t.precision)
  where
    go : (c : Bool) → source_of (cond c (Same (Float f)) (FloatToFloat f t)) ≡ kind_in (Float f)
    go true = refl
    go false = refl

-- ---- formats that the route tells to be the same are of one kind
same_integers : (s t : Bool) (m n : ℕ) → eqb m n && beq s t ≡ true → integer s m ≡ integer t n
same_integers s t m n = go (eqb m n) refl s t
  where
    no : {A : Type 0} → ◌≡◌ {A = Bool} false true → A
    no e = let z : ◌≡◌ {A = ℕ} 0 1 = cc in absurd (omega arith)

    go : (c : Bool) → eqb m n ≡ c → (s t : Bool) → c && beq s t ≡ true → integer s m ≡ integer t n
    go true e true true h = ap (integer true) (eqb-true m n e)
    go true e false false h = ap (integer false) (eqb-true m n e)
    go true e true false h = no h
    go true e false true h = no h
    go false e s t h = no h

same_floats : (f t : FloatFormat) → FloatRow f → FloatRow t → f.precision ≡ t.precision → f ≡ t
same_floats f t a b h = by_row (λ (x : FloatFormat). f.precision ≡ x.precision → f ≡ x) (half f a) (λ e. single f a (λ z. differ e z (λ (y : 24 ≡ 53). omega arith)) (λ z. differ e z (λ (y : 24 ≡ 11). omega arith))) (double f a) t b h
  where
    differ : {m n k : ℕ} → m ≡ n → m ≡ k → (n ≡ k → ⊥) → ⊥
    differ e z other = other (sym e ∙ z)

pub target_kind : (s t : Format) → FormatRow s → FormatRow t → target_of (route_of s t) ≡ kind_in t
target_kind (Integer f) (Integer t) a b = go (eqb f.bits t.bits && beq f.signed t.signed) refl
  where
    go : (c : Bool) → eqb f.bits t.bits && beq f.signed t.signed ≡ c → target_of (cond c (Same (Integer f)) (IntToInt f t)) ≡ kind_in (Integer t)
    go true e = same_integers f.signed t.signed f.bits t.bits e
    go false e = refl
target_kind (Integer f) (Float t) a b = refl
target_kind (Float f) (Integer t) a b = refl
target_kind (Float f) (Float t) a b = go (eqb f.precision t.precision) refl
  where
    go : (c : Bool) → eqb f.precision t.precision ≡ c → target_of (cond c (Same (Float f)) (FloatToFloat f t)) ≡ kind_in (Float t)
    go true e = ap float_of (same_floats f t a b (eqb-true f.precision t.precision e))
    go false e = refl

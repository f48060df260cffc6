-- What is found by testing the keys in their order is what the definitions look up; and what is to be found by testing them from one on.
use Prim.Native.Nat.{ℕ}
use mathlib.Core.Bool.{Bool, true, false, cond}
use mathlib.Core.List.{List, [], ◌∷◌, map}
use mathlib.Core.Path.{◌≡◌, refl}
use lib.ListN.{drop}
use Rattle.std.specs.List.{find}
use Rattle.std.specs.Prelude.{None, Option, Some}
use Rattle.patterns.specs.Kind.{Kind}
use Rattle.patterns.specs.Value.{Value, value_of}
use Rattle.cast_spec.specs.Element.{Entry, matches, lookup_of}

-- ---- the value v of the kind k is looked for; `of` gives an entry's patterns
module _ {X : Type 0} (of : X → Entry) (k : Kind) (v : Value) where
  abbrev pub test : X → Bool
  test y = matches v (value_of k (of y).key)

  abbrev pub target_of : Option X → Option ℕ
  target_of (Some y) = Some (of y).target
  target_of None = None

  pub first_found : (ys : List X) → target_of (find test ys) ≡ lookup_of k v (map of ys)
  first_found [] = refl
  first_found (y ∷ ys) = go (test y) (first_found ys)
    where
      go : (t : Bool) → target_of (find test ys) ≡ lookup_of k v (map of ys) → target_of (cond t (Some y) (find test ys)) ≡ cond t (Some (of y).target) (lookup_of k v (map of ys))
      go true e = refl
      go false e = e

  module _ (ys : List X) where
    abbrev found_from : List X → Option ℕ
    found_from zs = lookup_of k v (map of zs)

    -- what is to be found from i on is what is to be found from the start
    abbrev pub Same : ℕ → Type 0
    Same i = found_from (drop i ys) ≡ found_from ys

-- One element: what `outcome_of` comes to for a finite element that no entry matches, and the number that its pattern has.
use mathlib.Core.Path.{◌≡◌, refl, ap, ◌∙◌}
use mathlib.Core.Bool.{Bool, true, false, ◌&&◌, cond}
use mathlib.Core.List.{List, [], ◌∷◌, Memᴰ}
use Prim.Native.Nat.{ℕ}
use lib.Dec.{T}
use lib.IntN.{ℤ}
use lib.Signed.{◌≤ℤ◌, le_z, le_z_yes}
use Rattle.grid.specs.declared.RoundingMode.{RoundingMode}
use Rattle.grid.specs.Round.{pick}
use Rattle.grid.proofs.Int.{ints, →eq}
use Rattle.patterns.specs.Kind.{Kind, integer, binary, grid_of, lowest, highest, InRange}
use Rattle.patterns.specs.Value.{Value, nan, inf, num, negative, value_of}
use Rattle.cast_spec.specs.Element.{Entry, Settings, matches, lookup_of, found_or, in_range, ranged, converted, outcome_of}
use Rattle.patterns.specs.Pattern.{as_f64}
use Rattle.codes.specs.declared.OutOfRangeMode.{OutOfRangeMode}
use Rattle.answers.specs.Outcome.{Outcome}
use Rattle.std.specs.Prelude.{None, Option, Some}

-- ---- the map
no_match : (k : Kind) (x : ℤ) (es : List Entry) → ((e : Entry) → Memᴰ e es → value_of k e.key ≡ num x → ⊥) → lookup_of k (num x) es ≡ None
no_match k x [] h = refl
no_match k x (e ∷ es) h = go (value_of k e.key) (h e (Memᴰ.head refl)) (no_match k x es (λ f m. h f (Memᴰ.tail m)))
  where
    go : (v : Value) → (v ≡ num x → ⊥) → lookup_of k (num x) es ≡ None → cond (matches (num x) v) (Some e.target) (lookup_of k (num x) es) ≡ None
    go nan f rest = rest
    go (inf b) f rest = rest
    go (num y) f rest = by (le_z x y) (le_z y x) le_z_yes le_z_yes
      where
        by : (c d : Bool) → (T c → x ≤ℤ y) → (T d → y ≤ℤ x) → cond (c && d) (Some e.target) (lookup_of k (num x) es) ≡ None
        by true true a b = let l = a tt in let m = b tt in absurd (f (ap num (→eq y x (omega ints))))
        by true false a b = rest
        by false true a b = rest
        by false false a b = rest

-- ---- the steps of a finite element that no entry matches
pub outcome_is : (S : Settings) (b : ℕ) (x : ℤ) → value_of S.from b ≡ num x → ((e : Entry) → Memᴰ e S.entries → value_of S.from e.key ≡ num x → ⊥)
    → outcome_of S b ≡ ranged S.to S.range (as_f64 S.from b) (negative S.from b) x (pick (grid_of S.to) S.rule x)
unfolding outcome_of
outcome_is S b x e h =
    ap {B = Outcome} (λ (v : Value). found_or (lookup_of S.from v S.entries) (converted S b S.to v)) e
    ∙ ap (λ (l : Option ℕ). found_or l (converted S b S.to (num x))) (no_match S.from x S.entries h)

-- ---- a conversion does not look at the entries
pub no_map : (from to : Kind) (rule : RoundingMode) (choice : OutOfRangeMode) (es : List Entry) (b : ℕ) (k : Kind) (v : Value)
    → converted (record { from = from; to = to; rule = rule; range = choice; entries = [] }) b k v ≡ converted (record { from = from; to = to; rule = rule; range = choice; entries = es }) b k v
no_map from to rule choice es b k (num x) = refl
no_map from to rule choice es b (integer t n) (inf neg) = refl
no_map from to rule choice es b (integer t n) nan = refl
no_map from to rule choice es b (binary p w t) (inf neg) = refl
no_map from to rule choice es b (binary p w t) nan = refl

-- in the range or past it
pub by_range : (F : Outcome → Type 0) (k : Kind) (y : ℤ) (a b : Outcome) → F (cond (in_range k y) a b) → (InRange k y → F a) × ((InRange k y → ⊥) → F b)
by_range F k y a b f = go (le_z (lowest k) y) (le_z y (highest k)) le_z_yes (λ h. h.le) le_z_yes (λ h. h.le) f
  where
    go : (c d : Bool) → (T c → lowest k ≤ℤ y) → (lowest k ≤ℤ y → T c) → (T d → y ≤ℤ highest k) → (y ≤ℤ highest k → T d) → F (cond (c && d) a b) → (InRange k y → F a) × ((InRange k y → ⊥) → F b)
    go true true p p' q q' f = (λ _. f, λ n. absurd (n (p tt, q tt)))
    go true false p p' q q' f = (λ h. absurd (q' h.1), λ _. f)
    go false d p p' q q' f = (λ h. absurd (p' h.0), λ _. f)

-- Each converted element is of one class, the one that its outcome names: the five are disjoint and cover what is stored.
use Rattle.answers.specs.declared.Stored.{Stored}
use mathlib.Core.Path.{◌≡◌, refl, sym, ap, subst, ◌∙◌}
use mathlib.Core.Logic.{◌↔◌, ◌≢◌, ◌⊎◌, inl, inr, ⊎_elim}
use mathlib.Core.Bool.{Bool, true, false, ◌&&◌, cond}
use mathlib.Core.List.Memᴰ
use mathlib.Core.List.{List, [], ◌∷◌, Memᴰ}
use Prim.Native.Nat.{ℕ}
use native.Mathlib.Omega.{arith}
use lib.Dec.{T}
use lib.IntN.{ℤ}
use lib.Signed.{◌≤ℤ◌, le_z, le_z_yes}
use Rattle.grid.specs.Grid.{OnGrid}
use Rattle.grid.specs.Pick.{IsPick}
use Rattle.grid.specs.Round.{pick}
use Rattle.grid.specs.Ternary.{ternary_of}
use Rattle.grid.proofs.Picked.{picked, pick_only, pick_own}
use Rattle.grid.proofs.Sides.{Says, exact_is, ternary_says}
use Rattle.grid.specs.declared.Ternary.{Ternary}
use Rattle.grid.specs.declared.Ternary.TheVariants as side
use Rattle.patterns.specs.Kind.{Kind, integer, binary, grid_of, lowest, highest, InRange, WellFormed}
use Rattle.patterns.specs.Value.{Value, nan, inf, num, negative, value_of}
use Rattle.patterns.specs.Pattern.{pattern_of, as_f64}
use Rattle.patterns.proofs.AnyKind.{sound}
use Rattle.counts.specs.Counts.{by_pick}
use Rattle.counts.specs.declared.Fared.{Fared}
use Rattle.counts.specs.declared.Fared.TheVariants.{Mapped, Exact, Rounded, Clamped, Wrapped}
use Rattle.codes.specs.declared.OutOfRangeMode.{OutOfRangeMode}
use Rattle.codes.specs.declared.OutOfRangeMode.TheVariants.{None, Clamp, Wrap}
use Rattle.cast_spec.specs.Element.{Entry, Settings, matches, lookup_of, found_or, in_range, beyond, converted, outcome_of}
use Rattle.cast_spec.specs.Chunk.{Call, outcome_at}
use Rattle.cast_spec.specs.Counted.{Matched, Carried, Picks, Fares, value_at}
use Rattle.answers.specs.Outcome.{Outcome, stored_as}
use Rattle.std.specs.Prelude.{None, Option, Some}

-- ---- the map: what is found is of an entry that matches, and where nothing is found none does
module _ (k : Kind) (v : Value) where
  abbrev Match : List Entry → Type 0
  Match es = (e : Entry) × Memᴰ e es × (matches v (value_of k e.key) ≡ true)

  found_matches : (es : List Entry) (t : ℕ) → lookup_of k v es ≡ Some t → Match es
  found_matches [] t e = let z : ◌≡◌ {A = ℕ} 0 1 = cc in absurd (omega arith)
  found_matches (x ∷ es) t e = go (matches v (value_of k x.key)) refl (found_matches es t) e
    where
      go : (b : Bool) → matches v (value_of k x.key) ≡ b → (lookup_of k v es ≡ Some t → Match es) → cond b (Some x.target) (lookup_of k v es) ≡ Some t → Match (x ∷ es)
      go true m f e = (x, Memᴰ.head refl, m)
      go false m f e = let r = f e in (r.0, Memᴰ.tail r.1, r.2)

  matched_found : (es : List Entry) → Match es → (t : ℕ) × (lookup_of k v es ≡ Some t)
  matched_found [] m = absurd (Memᴰ.not-nil m.1)
  matched_found (x ∷ es) m = go (matches v (value_of k x.key)) refl (matched_found es)
    where
      go : (b : Bool) → matches v (value_of k x.key) ≡ b → (Match es → (t : ℕ) × (lookup_of k v es ≡ Some t)) → (t : ℕ) × (cond b (Some x.target) (lookup_of k v es) ≡ Some t)
      go true n f = (x.target, refl)
      go false n f = ⊎_elim (λ (e : m.0 ≡ x). absurd (true_false (sym m.2 ∙ ap (λ (y : Entry). matches v (value_of k y.key)) e ∙ n))) (λ (l : Memᴰ m.0 es). f (m.0, l, m.2)) (Memᴰ.cases_cons m.1)
        where
          true_false : true ≡ false → ⊥
          true_false e = let z : ◌≡◌ {A = ℕ} 0 1 = cc in omega arith

  either_way : (es : List Entry) → ((t : ℕ) × (lookup_of k v es ≡ Some t)) ⊎ (lookup_of k v es ≡ None)
  either_way es = go (lookup_of k v es) refl
    where
      go : (l : Option ℕ) → lookup_of k v es ≡ l → ((t : ℕ) × (lookup_of k v es ≡ Some t)) ⊎ (lookup_of k v es ≡ None)
      go (Some t) e = inl (t, e)
      go None e = inr e

  missing_unmatched : (es : List Entry) → lookup_of k v es ≡ None → Match es → ⊥
  missing_unmatched es e m = let f = matched_found es m in let d : Some f.0 ≡ None = sym f.1 ∙ e in let z : ◌≡◌ {A = ℕ} 0 1 = cc in omega arith

  unmatched_missing : (es : List Entry) → (Match es → ⊥) → lookup_of k v es ≡ None
  unmatched_missing es n = ⊎_elim (λ f. absurd (n (found_matches es f.0 f.1))) (λ e. e) (either_way es)

-- ---- in the range or past it, as the test tells
range_told : (k : Kind) (y : ℤ) → (InRange k y × (in_range k y ≡ true)) ⊎ ((InRange k y → ⊥) × (in_range k y ≡ false))
range_told k y = go (le_z (lowest k) y) (le_z y (highest k)) le_z_yes (λ h. h.le) le_z_yes (λ h. h.le)
  where
    go : (a b : Bool) → (T a → lowest k ≤ℤ y) → (lowest k ≤ℤ y → T a) → (T b → y ≤ℤ highest k) → (y ≤ℤ highest k → T b) → (InRange k y × (a && b ≡ true)) ⊎ ((InRange k y → ⊥) × (a && b ≡ false))
    go true true p p' q q' = inl ((p tt, q tt), refl)
    go true false p p' q q' = inr (λ h. q' h.1, refl)
    go false b p p' q q' = inr (λ h. p' h.0, refl)

-- a pick in the range
by_exact : (x y : ℤ) → y ≡ x → by_pick (ternary_of x y) ≡ Exact
by_exact x y e = ap by_pick (exact_is x y e)

by_rounded : (x y : ℤ) → y ≢ x → by_pick (ternary_of x y) ≡ Rounded
by_rounded x y n = go (ternary_of x y) ((ternary_says (ternary_of x y) x y).0 refl)
  where
    go : (t : Ternary) → Says t x y → by_pick t ≡ Rounded
    go side.Exact e = absurd (n e)
    go side.Below l = refl
    go side.Above l = refl

-- a stored pattern has one class
one_name : (b b' : ℕ) (f g : Fared) → stored_as b f ≡ stored_as b' g → f ≡ g
one_name b b' f g e = let h : ◌≡◌ {A = Stored} (record { pattern = b; fared = f }) (record { pattern = b'; fared = g }) = cc in ap (λ (s : Stored). s.fared) h

-- past the range an element is clamped, wrapped or refused
past_name : (k : Kind) (r : OutOfRangeMode) (u : ℕ) (neg : Bool) (y : ℤ) (t : ℕ) (f : Fared) → beyond k r u neg y ≡ stored_as t f → ((f ≡ Clamped) × (r ≡ Clamp)) ⊎ ((f ≡ Wrapped) × (r ≡ Wrap))
unfolding beyond
past_name (integer s n) None u neg y t f e = let z : ◌≡◌ {A = ℕ} 0 1 = cc in absurd (omega arith)
past_name (integer s n) Clamp u neg y t f e = inl (sym (one_name _ _ Clamped f e), refl)
past_name (integer s n) Wrap u neg y t f e = inr (sym (one_name _ _ Wrapped f e), refl)
past_name (binary p w s) None u neg y t f e = let z : ◌≡◌ {A = ℕ} 0 1 = cc in absurd (omega arith)
past_name (binary p w s) Clamp u neg y t f e = inl (sym (one_name _ _ Clamped f e), refl)
past_name (binary p w s) Wrap u neg y t f e = let z : ◌≡◌ {A = ℕ} 0 1 = cc in absurd (omega arith)

differ : (s : Ternary) → side.Exact ≡ s → by_pick s ≡ Rounded → ⊥
differ s e d = let q : Exact ≡ Rounded = ap by_pick e ∙ d in let z : ◌≡◌ {A = ℕ} 0 1 = cc in omega arith

inf_num : (neg : Bool) (x : ℤ) → inf neg ≡ num x → ⊥
inf_num neg x e = let z : ◌≡◌ {A = ℕ} 0 1 = cc in omega arith

nan_num : (x : ℤ) → nan ≡ num x → ⊥
nan_num x e = let z : ◌≡◌ {A = ℕ} 0 1 = cc in omega arith

apart : Clamp ≡ Wrap → ⊥
apart e = let z : ◌≡◌ {A = ℕ} 0 1 = cc in omega arith

module _ (c : Call) (i : ℕ) (ok : WellFormed c.settings.to) where
  abbrev k : Kind
  k = c.settings.to

  abbrev S : Settings
  S = c.settings

  abbrev b : ℕ
  b = c.element i

  -- ---- what the outcome is
  outcome_matched : Matched c i → (t : ℕ) × (outcome_at c i ≡ stored_as t Mapped)
  unfolding outcome_at outcome_of
  outcome_matched m = let f = matched_found S.from (value_at c i) S.entries (m.entry, m.listed, m.matching) in (f.0, ap (λ (l : Option ℕ). found_or l (converted S b k (value_at c i))) f.1)

  outcome_unmatched : (v : Value) → value_at c i ≡ v → (Matched c i → ⊥) → outcome_at c i ≡ converted S b k v
  unfolding outcome_at outcome_of
  outcome_unmatched v e n =
      ap (λ (l : Option ℕ). found_or l (converted S b k (value_at c i))) (unmatched_missing S.from (value_at c i) S.entries (λ m. n (record { entry = m.0; listed = m.1; matching = m.2 })))
      ∙ ap (converted S b k) e

  abbrev past : ℤ → Outcome
  past y = beyond k S.range (as_f64 S.from b) (negative S.from b) y

  abbrev in_range_outcome : ℤ → ℤ → Outcome
  in_range_outcome x y = stored_as (pattern_of k (negative S.from b) y) (by_pick (ternary_of x y))

  outcome_number_lem : (x y : ℤ) → value_at c i ≡ num x → IsPick (grid_of k) S.rule x y → (Matched c i → ⊥) → outcome_at c i ≡ cond (in_range k y) (in_range_outcome x y) (past y)
  outcome_number_lem x y e p n = outcome_unmatched (num x) e n ∙ ap (λ (z : ℤ). cond (in_range k z) (in_range_outcome x z) (past z)) (sym (pick_only (grid_of k) (sound k ok) S.rule x y p))

  outcome_in : (x y : ℤ) → value_at c i ≡ num x → IsPick (grid_of k) S.rule x y → (Matched c i → ⊥) → InRange k y → outcome_at c i ≡ in_range_outcome x y
  outcome_in x y e p n h = ⊎_elim
      (λ (t : InRange k y × (in_range k y ≡ true)). outcome_number_lem x y e p n ∙ ap (λ (z : Bool). cond z (in_range_outcome x y) (past y)) t.1)
      (λ (t : (InRange k y → ⊥) × (in_range k y ≡ false)). absurd (t.0 h))
      (range_told k y)

  outcome_past : (x y : ℤ) → value_at c i ≡ num x → IsPick (grid_of k) S.rule x y → (Matched c i → ⊥) → (InRange k y → ⊥) → outcome_at c i ≡ past y
  outcome_past x y e p n h = ⊎_elim
      (λ (t : InRange k y × (in_range k y ≡ true)). absurd (h t.0))
      (λ (t : (InRange k y → ⊥) × (in_range k y ≡ false)). outcome_number_lem x y e p n ∙ ap (λ (z : Bool). cond z (in_range_outcome x y) (past y)) t.1)
      (range_told k y)

  not_finite_name : (v : Value) (f : Fared) (t : ℕ) → ((x : ℤ) → v ≡ num x → ⊥) → converted S b k v ≡ stored_as t f → f ≡ Exact
  not_finite_name v f t n e = go k v n e
    where
      go : (k : Kind) (v : Value) → ((x : ℤ) → v ≡ num x → ⊥) → converted S b k v ≡ stored_as t f → f ≡ Exact
      go k (num x) n e = absurd (n x refl)
      go (integer s m) nan n e = let z : ◌≡◌ {A = ℕ} 0 1 = cc in absurd (omega arith)
      go (integer s m) (inf neg) n e = let z : ◌≡◌ {A = ℕ} 0 1 = cc in absurd (omega arith)
      go (binary p w s) nan n e = sym (one_name _ _ Exact f e)
      go (binary p w s) (inf neg) n e = sym (one_name _ _ Exact f e)

  -- ---- an element of a class is stored as one of that class, where it is stored
  pub named : (g f : Fared) (t : ℕ) → Fares c g i → outcome_at c i ≡ stored_as t f → f ≡ g
  named Mapped f t m e = let o = outcome_matched m in sym (one_name o.0 t Mapped f (sym o.1 ∙ e))
  named Exact f t (inl m) e = not_finite_name (value_at c i) f t m.not_finite (sym (outcome_unmatched (value_at c i) refl m.unmatched) ∙ e)
  named Exact f t (inr p) e = sym (one_name _ t _ f (sym (outcome_in p.x p.y p.number p.pick p.unmatched p.so.0) ∙ e)) ∙ by_exact p.x p.y p.so.1
  named Rounded f t p e = sym (one_name _ t _ f (sym (outcome_in p.x p.y p.number p.pick p.unmatched p.so.0) ∙ e)) ∙ by_rounded p.x p.y p.so.1
  named Clamped f t p e = ⊎_elim (λ h. h.0) (λ h. absurd (apart (sym p.so.1 ∙ h.1))) (past_name k S.range _ _ p.y t f (sym (outcome_past p.x p.y p.number p.pick p.unmatched p.so.0) ∙ e))
  named Wrapped f t p e = ⊎_elim (λ h. absurd (apart (sym h.1 ∙ p.so.1))) (λ h. h.0) (past_name k S.range _ _ p.y t f (sym (outcome_past p.x p.y p.number p.pick p.unmatched p.so.0) ∙ e))

  -- ---- and every stored element is of the class that its outcome names
  number_fares : (f : Fared) (t : ℕ) (x : ℤ) → value_at c i ≡ num x → (Matched c i → ⊥) → outcome_at c i ≡ stored_as t f → Fares c f i
  number_fares f t x v n e = ⊎_elim here beyond_it (range_told k y)
    where
      y : ℤ
      y = pick (grid_of k) S.rule x

      p : IsPick (grid_of k) S.rule x y
      p = picked (grid_of k) (sound k ok) S.rule x

      picks : {So : ℤ → ℤ → Type 0} → So x y → Picks c i So
      picks so = record { unmatched = n; x = x; y = y; number = v; pick = p; so = so }

      by_side : (s : Ternary) → ternary_of x y ≡ s → InRange k y → Fares c (by_pick s) i
      by_side side.Exact q h = inr (picks (h, (ternary_says side.Exact x y).0 q))
      by_side side.Below q h = picks (h, λ (d : y ≡ x). differ side.Below (sym (exact_is x y d) ∙ q) refl)
      by_side side.Above q h = picks (h, λ (d : y ≡ x). differ side.Above (sym (exact_is x y d) ∙ q) refl)

      here : InRange k y × (in_range k y ≡ true) → Fares c f i
      here h = subst (λ (g : Fared). Fares c g i) (one_name _ t _ f (sym (outcome_in x y v p n h.0) ∙ e)) (by_side (ternary_of x y) refl h.0)

      beyond_it : (InRange k y → ⊥) × (in_range k y ≡ false) → Fares c f i
      beyond_it h = ⊎_elim
          (λ q. subst (λ (g : Fared). Fares c g i) (sym q.0) (picks (h.0, q.1)))
          (λ q. subst (λ (g : Fared). Fares c g i) (sym q.0) (picks (h.0, q.1)))
          (past_name k S.range _ _ y t f (sym (outcome_past x y v p n h.0) ∙ e))

  pub fares : (f : Fared) (t : ℕ) → outcome_at c i ≡ stored_as t f → Fares c f i
  fares f t e = ⊎_elim mapped unmapped (either_way S.from (value_at c i) S.entries)
    where
      mapped : (u : ℕ) × (lookup_of S.from (value_at c i) S.entries ≡ Some u) → Fares c f i
      mapped u =
          let m = found_matches S.from (value_at c i) S.entries u.0 u.1 in
          let r : Matched c i = record { entry = m.0; listed = m.1; matching = m.2 } in
          subst (λ (g : Fared). Fares c g i) (sym (named Mapped f t r e)) r

      unmapped : lookup_of S.from (value_at c i) S.entries ≡ None → Fares c f i
      unmapped l = go (value_at c i) refl
        where
          n : Matched c i → ⊥
          n m = missing_unmatched S.from (value_at c i) S.entries l (m.entry, m.listed, m.matching)

          carried : ((x : ℤ) → value_at c i ≡ num x → ⊥) → Fares c f i
          carried q = let r : Fares c Exact i = inl (record { unmatched = n; not_finite = q }) in subst (λ (g : Fared). Fares c g i) (sym (named Exact f t r e)) r

          go : (v : Value) → value_at c i ≡ v → Fares c f i
          go (num x) d = number_fares f t x d n e
          go (inf neg) d = carried (λ x q. inf_num neg x (sym d ∙ q))
          go nan d = carried (λ x q. nan_num x (sym d ∙ q))

  -- ---- exact is to be on the target's grid and in its range, or to be carried
  pub record OnTarget : Type 0 where
    pub unmatched : Matched c i → ⊥
    pub x : ℤ
    pub number : value_at c i ≡ num x
    pub on : OnGrid (grid_of c.settings.to) x
    pub within : InRange c.settings.to x

  pub exact_on_grid : Fares c Exact i ↔ (Carried c i ⊎ OnTarget)
  exact_on_grid = (there, back)
    where
      there : Fares c Exact i → Carried c i ⊎ OnTarget
      there (inl m) = inl m
      there (inr p) = inr (record { unmatched = p.unmatched; x = p.x; number = p.number; on = subst (OnGrid (grid_of k)) p.so.1 p.pick.on; within = subst (InRange k) p.so.1 p.so.0 })

      back : Carried c i ⊎ OnTarget → Fares c Exact i
      back (inl m) = inl m
      back (inr t) =
          let own = pick_own (grid_of k) (sound k ok) S.rule t.x t.on in
          inr (record { unmatched = t.unmatched; x = t.x; y = t.x; number = t.number; pick = subst (IsPick (grid_of k) S.rule t.x) own (picked (grid_of k) (sound k ok) S.rule t.x); so = (t.within, refl) })

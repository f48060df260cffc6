-- A pattern that a conversion to f32 stores is no NaN's but the quiet one, where the elements' and the targets' patterns are so: it is the one that the f32 read from it has.
use mathlib.Core.Bool.{Bool, true, false, cond, ◌&&◌}
use mathlib.Core.Path.{◌≡◌, refl, sym, ap, subst, ◌∙◌}
use mathlib.Core.List.{List, [], ◌∷◌, map}
use Prim.Native.Nat.{ℕ, ◌%◌, ◌^◌}
use native.Mathlib.Omega.{arith}
use native.Mathlib.Nat.{mod-eq_of_lt}
use lib.Ieee.Bits.{of_bits-fits, is_true}
use lib.IntN.{ℤ, pos, nat_abs}
use lib.Signed.{◌≤ℤ◌, le_z, le_z_yes}
use lib.Ieee.{binary32, fits, of_bits, to_bits}
use lib.Dec.{T, lit<, lit≤}
use Rattle.grid.specs.Round.{pick, signed}
use Rattle.grid.specs.Grid.{OnGrid}
use Rattle.grid.specs.Ternary.{ternary_of}
use Rattle.grid.proofs.Picked.{picked}
use Rattle.bytes_le.specs.Bytes.{to_le}
use Rattle.patterns.specs.Kind.{Kind, f32, grid_of, lowest, highest, InRange, WellFormed}
use Rattle.patterns.specs.Pattern.{pattern_of, infinity, nan_pattern, as_f64}
use Rattle.patterns.proofs.Floats.{inf_back, inf_fits}
use Rattle.patterns.specs.Value.{Value, nan, inf, num, negative, value_of}
use Rattle.patterns.proofs.AnyKind.{sound, sign_of, pick_sign, pattern_back, pattern_fits}
use Rattle.counts.specs.Counts.{by_pick}
use Rattle.counts.specs.declared.Fared.{Fared}
use Rattle.codes.specs.declared.OutOfRangeMode.{OutOfRangeMode}
use Rattle.codes.specs.declared.OutOfRangeMode.TheVariants.{None, Clamp, Wrap}
use Rattle.cast_spec.specs.Element.{Entry, Settings, matches, lookup_of, found_or, ranged, beyond, converted, outcome_of}
use Rattle.typed_values.specs.Bits.{f32_bits}
use Rattle.typed_patterns.specs.Values.{f32_of}
use Rattle.typed_values.proofs.Nans.{Back, not_nan}
use Rattle.answers.specs.Outcome.{Outcome, stored_as}
use Rattle.answers.specs.declared.ElementRefusal.TheVariants.{FloatOutOfRange, NanOrInf, OutOfRange}
use Rattle.std.specs.Prelude.{Err, None, Ok, Some}

-- ---- the f32 read from the pattern b has the bytes of b
pub read_back : (b : ℕ) → Back b → to_le 4 (f32_bits (f32_of b)) ≡ to_le 4 b
read_back b k =
    let x = of_bits binary32 (b % 2 ^ 32) in
    ap (λ (t : Bool). to_le 4 (cond t (to_bits binary32 x) 0)) (is_true (fits binary32 x) (of_bits-fits binary32 (b % 2 ^ 32)))
    ∙ ap (λ (z : ℕ). to_le 4 (to_bits binary32 (of_bits binary32 z))) (mod-eq_of_lt k.1) ∙ ap (to_le 4) k.0

abbrev Good : Outcome → Type 0
Good (Ok s) = Back s.pattern
Good (Err (NanOrInf v)) = Unit {0}
Good (Err (OutOfRange v lo hi)) = Unit {0}
Good (Err (FloatOutOfRange v lo hi)) = Unit {0}

-- ---- the steps
found_good : {Z : Type 0} (of : Z → Entry) → ((z : Z) → Back (of z).target) → (k : Kind) (v : Value) (zs : List Z) (o : Outcome) → Good o → Good (found_or (lookup_of k v (map of zs)) o)
found_good of h k v [] o g = g
found_good of h k v (z ∷ zs) o g = go (matches v (value_of k (of z).key)) (found_good of h k v zs o g)
  where
    go : (t : Bool) → Good (found_or (lookup_of k v (map of zs)) o) → Good (found_or (cond t (Some (of z).target) (lookup_of k v (map of zs))) o)
    go true r = h z
    go false r = r

beyond_good : (m : OutOfRangeMode) (u : ℕ) (neg : Bool) (y : ℤ) → Good (beyond f32 m u neg y)
unfolding beyond
beyond_good None u neg y = tt
beyond_good Clamp u neg y = not_nan (infinity 24 8 neg) (inf_fits 24 8 925 (lit≤ tt) (lit< tt) neg) (λ e. let f = sym (inf_back 24 8 925 (lit≤ tt) (lit< tt) neg) ∙ e in let z : ◌≡◌ {A = ℕ} 0 1 = cc in omega arith)
beyond_good Wrap u neg y = tt

ranged_good : (m : OutOfRangeMode) (u : ℕ) (neg : Bool) (x y : ℤ) → OnGrid (grid_of f32) y → y ≡ signed neg (nat_abs y) → Good (ranged f32 m u neg x y)
ranged_good m u neg x y on e = go (le_z (lowest f32) y) (le_z y (highest f32)) le_z_yes le_z_yes
  where
    ok : WellFormed f32
    ok = (lit≤ tt, lit< tt)

    go : (c d : Bool) → (T c → lowest f32 ≤ℤ y) → (T d → y ≤ℤ highest f32) → Good (cond (c && d) (stored_as (pattern_of f32 neg y) (by_pick (ternary_of x y))) (beyond f32 m u neg y))
    go true true a b = let h : InRange f32 y = (a tt, b tt) in not_nan (pattern_of f32 neg y) (pattern_fits f32 neg y ok on h) (λ g. let f = sym (pattern_back f32 neg y ok on h e) ∙ g in let z : ◌≡◌ {A = ℕ} 0 1 = cc in omega arith)
    go true false a b = beyond_good m u neg y
    go false d a b = beyond_good m u neg y

module _ (S : Settings) (b : ℕ) (quiet_nan : value_of S.from b ≡ nan → Back (nan_pattern S.from 24 8 b)) where
  converted_good : (v : Value) → value_of S.from b ≡ v → Good (converted S b f32 v)
  unfolding beyond
  converted_good (num x) e =
      let P = picked (grid_of f32) (sound f32 (lit≤ tt, lit< tt)) S.rule x in
      ranged_good S.range (as_f64 S.from b) (negative S.from b) x (pick (grid_of f32) S.rule x) P.on (pick_sign (grid_of f32) (sound f32 (lit≤ tt, lit< tt)) S.rule (negative S.from b) x (sign_of S.from b x e))
  converted_good (inf neg) e = beyond_good Clamp 0 neg (pos 0)
  converted_good nan e = quiet_nan e

-- ---- what is stored by settings to f32, whose entries have such targets
pub stored_back : {Z : Type 0} (of : Z → Entry) → ((z : Z) → Back (of z).target) → (zs : List Z) (S : Settings) → S.to ≡ f32 → S.entries ≡ map of zs → (x b : ℕ) (f : Fared)
    → (value_of S.from x ≡ nan → Back (nan_pattern S.from 24 8 x)) → outcome_of S x ≡ stored_as b f → Back b
unfolding outcome_of
stored_back of h zs S to es x b f q e =
    let v = value_of S.from x in
    subst Good (ap (λ (k : Kind). found_or (lookup_of S.from v (map of zs)) (converted S x k v)) (sym to) ∙ ap (λ (l : List Entry). found_or (lookup_of S.from v l) (converted S x S.to v)) (sym es) ∙ e)
    (found_good of h S.from v zs (converted S x f32 v) (converted_good S x q v refl))

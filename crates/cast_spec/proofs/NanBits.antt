-- A NaN's own bits decide nothing but which NaN comes out.
use mathlib.Core.Path.{◌≡◌, refl, sym, ap, ap₂, subst, ◌∙◌}
use mathlib.Core.Logic.{◌⊎◌, inl, inr}
use mathlib.Core.Bool.{Bool, true, false, ◌&&◌, cond}
use mathlib.Core.List.{List, [], ◌∷◌, ◌++◌}
use Prim.Native.Nat.{ℕ, zero, suc, ◌+◌, ◌-◌, ◌*◌, ◌/◌, ◌%◌, ◌^◌, ◌≤◌, ◌<◌}
use native.Mathlib.Nat.{mod-mod, zero-add}
use native.Mathlib.Omega.{arith}
use lib.Dec.{T, ltb, eqb, eqb→eq, lit<, lit≤}
use lib.ListN.{length, take, drop, length-append, length-drop}
use lib.Pow.{mod-mod-pow}
use lib.Seq.{drop-drop}
use borrow.Author.Tests.{eqb-false}
use Rattle.grid.specs.Round.{signed}
use Rattle.grid.specs.declared.RoundingMode.{RoundingMode}
use Rattle.bytes_le.specs.Bytes.{from_le, to_le, pattern_at}
use Rattle.bytes_le.proofs.Places.{first_place, next_place}
use Rattle.bytes_le.proofs.Sums.{length-to_le}
use Rattle.patterns.specs.Float.{bits_mag, inf_bits}
use Rattle.patterns.specs.Kind.{Kind, integer, binary, f16, f32, f64, bits}
use Rattle.patterns.specs.Value.{Value, nan, inf, num, negative, float_value, value_of}
use Rattle.patterns.specs.Pattern.{nan_pattern, as_f64, as_f64_from}
use Rattle.patterns.proofs.Integers.{no_integer_nan}
use Rattle.kinds.specs.Table.{kind_of}
use Rattle.codes.specs.Codes.{rounding_of, range_of}
use Rattle.counts.specs.declared.Counts.{Counts}
use Rattle.counts.specs.declared.Fared.{Fared}
use Rattle.counts.specs.declared.Fared.TheVariants.{Mapped, Exact, Rounded, Clamped, Wrapped}
use Rattle.codes.specs.declared.OutOfRangeMode.{OutOfRangeMode}
use Rattle.answers.specs.declared.Reply.{Reply}
use Rattle.kinds.proofs.Listed.{by_any_code}
use Rattle.cast_spec.specs.Element.{Entry, Settings, matches, lookup_of, found_or, converted, outcome_of}
use Rattle.cast_spec.specs.Chunk.{Inputs, inputs, entries_from, sw, dw, settings_of, map_whole, bytes_whole, counts_meet, Check, checks_of, all_pass, tested, call_of, outcome_at, answer_next, answer_from, answer_of, converted_of, fared_as, count_below, counts_of, bytes_next, bytes_from, destination_of}
use Rattle.cast_spec.specs.Contract.{Contract}
use Rattle.cast_spec.specs.NanBits.{Alike, AlikeBytes, AlikeInputs, SameAnswer, SameButNans}
use Rattle.cast_spec.proofs.Widths.{kind_fits}
use Rattle.cast_spec.proofs.Checks.{map_whole_lem, counts_meet_lem, long_written}
use Rattle.cast_spec.proofs.Counts.{converted_within}
use Rattle.cast_spec.proofs.Sentences.{nan_stays}
use Rattle.cast_spec.proofs.Steps.{no_map}
use Rattle.answers.specs.Outcome.{Answer, Outcome, stored_as}
use Rattle.answers.specs.declared.ElementRefusal.TheVariants.{FloatOutOfRange, NanOrInf, OutOfRange}
use Rattle.std.specs.Prelude.{Err, Ok, Option, Some}

-- ---- a NaN is one by the bits below its sign
any_sign : (p w s : ℕ) (neg neg' : Bool) (x : ℕ) → float_value p w s neg x ≡ nan → float_value p w s neg' x ≡ nan
any_sign p w s neg neg' x = go (ltb x (inf_bits p w)) (eqb x (inf_bits p w))
  where
    go : (c d : Bool) → cond c (num (signed neg (bits_mag p s x))) (cond d (inf neg) nan) ≡ nan → cond c (num (signed neg' (bits_mag p s x))) (cond d (inf neg') nan) ≡ nan
    go true d e = let z : ◌≡◌ {A = ℕ} 0 1 = cc in absurd (omega arith)
    go false true e = let z : ◌≡◌ {A = ℕ} 0 1 = cc in absurd (omega arith)
    go false false e = refl

below_top : (b n : ℕ) → b % 2 ^ n % 2 ^ (n - 1) ≡ b % 2 ^ (n - 1)
below_top b zero = mod-mod b 1
below_top b (suc m) =
    let e : suc m - 1 ≡ m = omega arith in
    let f : suc m ≡ 1 + m = omega arith in
    ap₂ (λ (x y : ℕ). b % 2 ^ x % 2 ^ y) f e ∙ mod-mod-pow b 1 m ∙ ap (λ (y : ℕ). b % 2 ^ y) (sym e)

low_nan : (k : Kind) (b : ℕ) → value_of k b ≡ nan → value_of k (b % 2 ^ bits k) ≡ nan
unfolding value_of
low_nan (integer s n) b e = absurd (no_integer_nan s n b e)
low_nan (binary p w s) b e =
    ap (float_value p w s (negative (binary p w s) (b % 2 ^ (w + p)))) (below_top b (w + p))
    ∙ any_sign p w s (negative (binary p w s) b) (negative (binary p w s) (b % 2 ^ (w + p))) (b % 2 ^ (w + p - 1)) e

low_alike : (k : Kind) (a b : ℕ) → Alike k a b → Alike k (a % 2 ^ bits k) (b % 2 ^ bits k)
low_alike k a b (inl e) = inl (ap (λ (z : ℕ). z % 2 ^ bits k) e)
low_alike k a b (inr h) = inr (low_nan k a h.0, low_nan k b h.1)

same_value : (k : Kind) (a b : ℕ) → Alike k a b → value_of k a ≡ value_of k b
same_value k a b (inl e) = ap (value_of k) e
same_value k a b (inr h) = h.0 ∙ sym h.1

-- ---- a NaN stays one on its way to another kind, and as f64
abbrev NanStep : Kind → Kind → ℕ → Type 0
NanStep (integer s n) from b = value_of f64 (nan_pattern from 53 11 b) ≡ nan
NanStep (binary p w s) from b = value_of (binary p w s) (nan_pattern from p w b) ≡ nan

nan_step : (from to b : ℕ) → value_of (kind_of from) b ≡ nan → NanStep (kind_of to) (kind_of from) b
unfolding nan_pattern
nan_step from to b = by_any_code (λ (k : Kind). value_of k b ≡ nan → NanStep (kind_of to) k b)
    (λ s c h. absurd (no_integer_nan s (8 * 2 ^ c) b h))
    (λ h. by_any_code (λ (k : Kind). NanStep k f32 b) (λ s c. to_f64 24 8 925 refl) h (to_f64 24 8 925 refl) (to_f16 24 8 925 refl) to)
    (λ h. by_any_code (λ (k : Kind). NanStep k f64 b) (λ s c. h) (to_f32 53 11 0 refl) h (to_f16 53 11 0 refl) to)
    (λ h. by_any_code (λ (k : Kind). NanStep k f16 b) (λ s c. to_f64 11 5 1050 refl) (to_f32 11 5 1050 refl) (to_f64 11 5 1050 refl) h to) from
  where
    to_f16 : (p w s : ℕ) → eqb p 11 ≡ false → value_of f16 (nan_pattern (binary p w s) 11 5 b) ≡ nan
    to_f16 p w s other = nan_stays p w s 11 5 1050 b (eqb-false p 11 other) (lit≤ tt) (lit< tt)

    to_f32 : (p w s : ℕ) → eqb p 24 ≡ false → value_of f32 (nan_pattern (binary p w s) 24 8 b) ≡ nan
    to_f32 p w s other = nan_stays p w s 24 8 925 b (eqb-false p 24 other) (lit≤ tt) (lit< tt)

    to_f64 : (p w s : ℕ) → eqb p 53 ≡ false → value_of f64 (nan_pattern (binary p w s) 53 11 b) ≡ nan
    to_f64 p w s other = nan_stays p w s 53 11 0 b (eqb-false p 53 other) (lit≤ tt) (lit< tt)

-- ---- one element
pub record StoredNans (k : Kind) (o o' : Outcome) : Type 0 where
  pub b : ℕ
  pub b' : ℕ
  pub fared : Fared
  pub first : o ≡ stored_as b fared
  pub second : o' ≡ stored_as b' fared
  pub nans : (value_of k b ≡ nan) × (value_of k b' ≡ nan)

pub record RefusedNans (o o' : Outcome) : Type 0 where
  pub v : ℕ
  pub v' : ℕ
  pub first : o ≡ Err (NanOrInf v)
  pub second : o' ≡ Err (NanOrInf v')
  pub nans : (value_of f64 v ≡ nan) × (value_of f64 v' ≡ nan)

abbrev Outcomes : Kind → Outcome → Outcome → Type 0
Outcomes k o o' = (o ≡ o') ⊎ (StoredNans k o o' ⊎ RefusedNans o o')

mapped_alike : (k : Kind) (a b : ℕ) → Alike k a b → Outcomes k (stored_as a Mapped) (stored_as b Mapped)
mapped_alike k a b (inl e) = inl (ap (λ (z : ℕ). stored_as z Mapped) e)
mapped_alike k a b (inr h) = inr (inl (record { b = a; b' = b; fared = Mapped; first = refl; second = refl; nans = h }))

module _ (from to : ℕ) (rule : RoundingMode) (choice : OutOfRangeMode) where
  abbrev S : List Entry → Settings
  S es = record { from = kind_of from; to = kind_of to; rule = rule; range = choice; entries = es }

  nan_outcome : (es es' : List Entry) (a b : ℕ) → value_of (kind_of from) a ≡ nan → value_of (kind_of from) b ≡ nan → (k : Kind) → NanStep k (kind_of from) a → NanStep k (kind_of from) b → Outcomes k (converted (S es) a k nan) (converted (S es') b k nan)
  nan_outcome es es' a b h l (integer s n) u v = inr (inr (record { v = as_f64 (kind_of from) a; v' = as_f64 (kind_of from) b; first = refl; second = refl; nans = (ap (λ (x : Value). value_of f64 (as_f64_from (kind_of from) a x)) h ∙ u, ap (λ (x : Value). value_of f64 (as_f64_from (kind_of from) b x)) l ∙ v) }))
  nan_outcome es es' a b h l (binary p w s) u v = inr (inl (record { b = nan_pattern (kind_of from) p w a; b' = nan_pattern (kind_of from) p w b; fared = Exact; first = refl; second = refl; nans = (u, v) }))

  converted_alike : (es es' : List Entry) (a b : ℕ) → Alike (kind_of from) a b → Outcomes (kind_of to) (converted (S es) a (kind_of to) (value_of (kind_of from) a)) (converted (S es') b (kind_of to) (value_of (kind_of from) b))
  converted_alike es es' a b (inl e) = inl (
      sym (no_map (kind_of from) (kind_of to) rule choice es a (kind_of to) (value_of (kind_of from) a))
      ∙ no_map (kind_of from) (kind_of to) rule choice es' a (kind_of to) (value_of (kind_of from) a)
      ∙ ap (λ (z : ℕ). converted (S es') z (kind_of to) (value_of (kind_of from) z)) e)
  converted_alike es es' a b (inr h) = subst (λ (x : Value). Outcomes (kind_of to) (converted (S es) a (kind_of to) x) (converted (S es') b (kind_of to) (value_of (kind_of from) b))) (sym h.0)
      (subst (λ (x : Value). Outcomes (kind_of to) (converted (S es) a (kind_of to) nan) (converted (S es') b (kind_of to) x)) (sym h.1)
      (nan_outcome es es' a b h.0 h.1 (kind_of to) (nan_step from to a h.0) (nan_step from to b h.1)))

  -- the map, n entries from the position j on
  module _ (sw dw : ℕ) (ks ts ks' ts' : List ℕ) where
    lookup_alike : (n j : ℕ) → ((i : ℕ) → i < j + n → Alike (kind_of from) (pattern_at sw ks i) (pattern_at sw ks' i)) → ((i : ℕ) → i < j + n → Alike (kind_of to) (pattern_at dw ts i) (pattern_at dw ts' i))
        → (v : Value) (o o' : Outcome) → Outcomes (kind_of to) o o' → Outcomes (kind_of to) (found_or (lookup_of (kind_of from) v (entries_from sw dw ks ts j n)) o) (found_or (lookup_of (kind_of from) v (entries_from sw dw ks' ts' j n)) o')
    lookup_alike zero j hk ht v o o' h = h
    lookup_alike (suc n) j hk ht v o o' h =
        let l : j < j + suc n = omega arith in
        subst (λ (x : Value). Outcomes (kind_of to) (found_or (lookup_of (kind_of from) v (entries_from sw dw ks ts j (suc n))) o) (found_or (cond (matches v x) (Some (pattern_at dw ts' j)) (lookup_of (kind_of from) v (entries_from sw dw ks' ts' (suc j) n))) o'))
        (same_value (kind_of from) (pattern_at sw ks j) (pattern_at sw ks' j) (hk j l))
        (go (matches v (value_of (kind_of from) (pattern_at sw ks j))) _ _ (mapped_alike (kind_of to) (pattern_at dw ts j) (pattern_at dw ts' j) (ht j l)) (lookup_alike n (suc j) (λ i m. hk i (omega arith)) (λ i m. ht i (omega arith)) v o o' h))
      where
        go : (t : Bool) (l m : Option ℕ) {a b : ℕ} → Outcomes (kind_of to) (stored_as a Mapped) (stored_as b Mapped) → Outcomes (kind_of to) (found_or l o) (found_or m o') → Outcomes (kind_of to) (found_or (cond t (Some a) l) o) (found_or (cond t (Some b) m) o')
        go true l m x y = x
        go false l m x y = y

    pub outcome_alike : (n a b : ℕ) → ((i : ℕ) → i < n → Alike (kind_of from) (pattern_at sw ks i) (pattern_at sw ks' i)) → ((i : ℕ) → i < n → Alike (kind_of to) (pattern_at dw ts i) (pattern_at dw ts' i)) → Alike (kind_of from) a b
        → Outcomes (kind_of to) (outcome_of (S (entries_from sw dw ks ts 0 n)) a) (outcome_of (S (entries_from sw dw ks' ts' 0 n)) b)
    unfolding outcome_of
    outcome_alike n a b hk ht h =
        subst (λ (x : Value). Outcomes (kind_of to) (found_or (lookup_of (kind_of from) (value_of (kind_of from) a) (entries_from sw dw ks ts 0 n)) (converted (S (entries_from sw dw ks ts 0 n)) a (kind_of to) (value_of (kind_of from) a))) (found_or (lookup_of (kind_of from) x (entries_from sw dw ks' ts' 0 n)) (converted (S (entries_from sw dw ks' ts' 0 n)) b (kind_of to) (value_of (kind_of from) b))))
        (same_value (kind_of from) a b h)
        (lookup_alike n 0 (λ i m. hk i (omega arith)) (λ i m. ht i (omega arith)) (value_of (kind_of from) a) _ _ (converted_alike (entries_from sw dw ks ts 0 n) (entries_from sw dw ks' ts' 0 n) a b h))

-- ---- the answer, and the destination, of n outcomes from the position i on
module _ (k : Kind) (o o' : ℕ → Outcome) where
  abbrev Alikes : ℕ → ℕ → Type 0
  Alikes i n = (j : ℕ) → i ≤ j → j < i + n → Outcomes k (o j) (o' j)

  next_alikes : (i n : ℕ) → Alikes i (suc n) → Alikes (suc i) n
  next_alikes i n h j l m = h j (omega arith) (omega arith)

  answer_next_lem : (i : ℕ) (x y : Outcome) (r r' : Answer) → Outcomes k x y → SameAnswer r r' → SameAnswer (answer_next x i r) (answer_next y i r')
  answer_next_lem i x y r r' (inl e) h = subst (λ (z : Outcome). SameAnswer (answer_next x i r) (answer_next z i r')) e (go x)
    where
      go : (z : Outcome) → SameAnswer (answer_next z i r) (answer_next z i r')
      go (Ok s) = h
      go (Err (NanOrInf v)) = inl refl
      go (Err (OutOfRange v lo hi)) = inl refl
      go (Err (FloatOutOfRange v lo hi)) = inl refl
  answer_next_lem i x y r r' (inr (inl s)) h = subst (λ (z : Outcome). SameAnswer (answer_next z i r) (answer_next y i r')) (sym s.first) (subst (λ (z : Outcome). SameAnswer r (answer_next z i r')) (sym s.second) h)
  answer_next_lem i x y r r' (inr (inr s)) h = inr (record { position = i; value = s.v; other = s.v'; first = ap (λ (z : Outcome). answer_next z i r) s.first; second = ap (λ (z : Outcome). answer_next z i r') s.second; nans = s.nans })

  answer_alike : (n i : ℕ) → Alikes i n → SameAnswer (answer_from o i n) (answer_from o' i n)
  answer_alike zero i h = inl refl
  answer_alike (suc n) i h = answer_next_lem i (o i) (o' i) (answer_from o (suc i) n) (answer_from o' (suc i) n) (h i (omega arith) (omega arith)) (answer_alike n (suc i) (next_alikes i n h))

  module _ (w : ℕ) (fit : 256 ^ w ≡ 2 ^ bits k) where
    -- two destinations as far as n places
    pub record Both (n : ℕ) (d d' : List ℕ) : Type 0 where
      pub long : length d ≡ length d'
      pub at : (j : ℕ) → j < n → Alike k (pattern_at w d j) (pattern_at w d' j)

    place_after : (d : List ℕ) (j : ℕ) → pattern_at w (drop w d) j ≡ pattern_at w d (suc j)
    place_after d j = ap (λ (l : List ℕ). from_le (take w l)) (drop-drop (j * w) w d ∙ ap (λ (z : ℕ). drop z d) (step j))
      where
        step : (j : ℕ) → w + j * w ≡ suc j * w
        step j = omega arith

    after : (n : ℕ) (d d' : List ℕ) → Both (suc n) d d' → Both n (drop w d) (drop w d')
    after n d d' h = record {
      long = length-drop w d ∙ ap (λ (z : ℕ). z - w) h.long ∙ sym (length-drop w d');
      at = λ j l. subst (λ (z : ℕ). Alike k z (pattern_at w (drop w d') j)) (sym (place_after d j)) (subst (λ (z : ℕ). Alike k (pattern_at w d (suc j)) z) (sym (place_after d' j)) (h.at (suc j) (omega arith)));
    }

    put_both : (n b b' : ℕ) (r r' : List ℕ) → Alike k b b' → Both n r r' → Both (suc n) (to_le w b ++ r) (to_le w b' ++ r')
    put_both n b b' r r' a h = record {
      long = length-append (to_le w b) r ∙ ap₂ (λ (x y : ℕ). x + y) (length-to_le w b ∙ sym (length-to_le w b')) h.long ∙ sym (length-append (to_le w b') r');
      at = place;
    }
      where
        place : (j : ℕ) → j < suc n → Alike k (pattern_at w (to_le w b ++ r) j) (pattern_at w (to_le w b' ++ r') j)
        place zero l = subst (λ (z : ℕ). Alike k z (pattern_at w (to_le w b' ++ r') 0)) (sym (first_place w b r ∙ ap (λ (z : ℕ). b % z) fit)) (subst (λ (z : ℕ). Alike k (b % 2 ^ bits k) z) (sym (first_place w b' r' ∙ ap (λ (z : ℕ). b' % z) fit)) (low_alike k b b' a))
        place (suc j) l = subst (λ (z : ℕ). Alike k z (pattern_at w (to_le w b' ++ r') (suc j))) (sym (next_place w b j r)) (subst (λ (z : ℕ). Alike k (pattern_at w r j) z) (sym (next_place w b' j r')) (h.at j (omega arith)))

    bytes_next_lem : (n : ℕ) (x y : Outcome) (d d' r r' : List ℕ) → Outcomes k x y → Both (suc n) d d' → Both n r r' → Both (suc n) (bytes_next x w d r) (bytes_next y w d' r')
    bytes_next_lem n x y d d' r r' (inl e) h g = subst (λ (z : Outcome). Both (suc n) (bytes_next x w d r) (bytes_next z w d' r')) e (go x)
      where
        go : (z : Outcome) → Both (suc n) (bytes_next z w d r) (bytes_next z w d' r')
        go (Ok s) = put_both n s.pattern s.pattern r r' (inl refl) g
        go (Err (NanOrInf v)) = h
        go (Err (OutOfRange v lo hi)) = h
        go (Err (FloatOutOfRange v lo hi)) = h
    bytes_next_lem n x y d d' r r' (inr (inl s)) h g = subst (λ (z : Outcome). Both (suc n) (bytes_next z w d r) (bytes_next y w d' r')) (sym s.first) (subst (λ (z : Outcome). Both (suc n) (to_le w s.b ++ r) (bytes_next z w d' r')) (sym s.second) (put_both n s.b s.b' r r' (inr s.nans) g))
    bytes_next_lem n x y d d' r r' (inr (inr s)) h g = subst (λ (z : Outcome). Both (suc n) (bytes_next z w d r) (bytes_next y w d' r')) (sym s.first) (subst (λ (z : Outcome). Both (suc n) d (bytes_next z w d' r')) (sym s.second) h)

    bytes_alike : (n i : ℕ) (d d' : List ℕ) → Alikes i n → Both n d d' → Both n (bytes_from o w i n d) (bytes_from o' w i n d')
    bytes_alike zero i d d' h g = g
    bytes_alike (suc n) i d d' h g = bytes_next_lem n (o i) (o' i) d d' (bytes_from o w (suc i) n (drop w d)) (bytes_from o' w (suc i) n (drop w d')) (h i (omega arith) (omega arith)) g (bytes_alike n (suc i) (drop w d) (drop w d') (next_alikes i n h) (after n d d' g))

-- ---- the checks
through : (cs : List Check) (x x' : Answer) → (T (all_pass cs) → SameAnswer x x') → SameAnswer (tested cs x) (tested cs x')
through [] x x' h = h tt
through (c ∷ cs) x x' h = go c.passes h (through cs x x')
  where
    go : (b : Bool) → (T (b && all_pass cs) → SameAnswer x x') → ((T (all_pass cs) → SameAnswer x x') → SameAnswer (tested cs x) (tested cs x')) → SameAnswer (cond b (tested cs x) (Err c.refusal)) (cond b (tested cs x') (Err c.refusal))
    go true h f = f h
    go false h f = inl refl

third : (x y z : Bool) → T (x && y && z) → T z
third true true z h = h
third true false z h = absurd h
third false y z h = absurd h

-- ---- the counts
same_class : (k : Kind) (f : Fared) (x y : Outcome) → Outcomes k x y → fared_as f x ≡ fared_as f y
same_class k f x y (inl e) = ap (fared_as f) e
same_class k f x y (inr (inl s)) = ap (fared_as f) s.first ∙ sym (ap (fared_as f) s.second)
same_class k f x y (inr (inr s)) = ap (fared_as f) s.first ∙ sym (ap (fared_as f) s.second)

same_converted : (n : ℕ) (r a : Answer) → SameAnswer r a → converted_of n r ≡ converted_of n a
same_converted n r a (inl e) = ap (converted_of n) e
same_converted n r a (inr b) = ap (converted_of n) b.first ∙ sym (ap (converted_of n) b.second)

five_same : {m e r c w m' e' r' c' w' : ℕ} → m ≡ m' → e ≡ e' → r ≡ r' → c ≡ c' → w ≡ w'
    → ◌≡◌ {A = Counts} (record { mapped = m; exact = e; rounded = r; clamped = c; wrapped = w }) (record { mapped = m'; exact = e'; rounded = r'; clamped = c'; wrapped = w' })
five_same a b c d e = rw (a, b, c, d, e)

-- ---- any two such inputs
module _ (I : Inputs) (s d ks ts : List ℕ) (hs : AlikeBytes (kind_of I.from) (sw I) I.source s) (hd : AlikeBytes (kind_of I.to) (dw I) I.destination d)
    (hk : AlikeBytes (kind_of I.from) (sw I) I.keys ks) (ht : AlikeBytes (kind_of I.to) (dw I) I.targets ts) where
  abbrev J : Inputs
  J = inputs s d ks ts I.from I.to I.rounding I.range

  map_same : map_whole I ≡ map_whole J
  map_same = ap₂ (λ (m n : ℕ). eqb (m % sw I) 0 && eqb (n % dw I) 0 && eqb (m / sw I) (n / dw I)) hk.long ht.long

  bytes_same : bytes_whole I ≡ bytes_whole J
  bytes_same = ap₂ (λ (m n : ℕ). eqb (m % sw I) 0 && eqb (n % dw I) 0) hs.long hd.long

  counts_same : counts_meet I ≡ counts_meet J
  counts_same = ap₂ (λ (m n : ℕ). eqb (m / sw I) (n / dw I)) hs.long hd.long

  count_same : (call_of I).count ≡ (call_of J).count
  unfolding call_of
  count_same = ap (λ (m : ℕ). m / sw I) hs.long

  outcomes : T (map_whole I) → (j : ℕ) → j < length I.source / sw I → Outcomes (kind_of I.to) (outcome_at (call_of I) j) (outcome_at (call_of J) j)
  unfolding outcome_at call_of settings_of
  outcomes m j l =
      let n = length I.keys / sw I in
      let e : n ≡ length I.targets / dw I = eqb→eq n (length I.targets / dw I) (third (eqb (length I.keys % sw I) 0) (eqb (length I.targets % dw I) 0) (eqb n (length I.targets / dw I)) m) in
      subst (λ (z : ℕ). Outcomes (kind_of I.to) (outcome_at (call_of I) j) (outcome_of (record { from = kind_of I.from; to = kind_of I.to; rule = rounding_of I.rounding; range = range_of I.range; entries = entries_from (sw I) (dw I) ks ts 0 z }) (pattern_at (sw I) s j)))
      (ap (λ (z : ℕ). z / sw I) hk.long)
      (outcome_alike I.from I.to (rounding_of I.rounding) (range_of I.range) (sw I) (dw I) I.keys I.targets ks ts n (pattern_at (sw I) I.source j) (pattern_at (sw I) s j)
      hk.at (λ i h. ht.at i (subst (λ (z : ℕ). i < z) e h)) (hs.at j l))

  alikes : T (map_whole I) → Alikes (kind_of I.to) (outcome_at (call_of I)) (outcome_at (call_of J)) 0 (call_of I).count
  unfolding call_of
  alikes m j l h = outcomes m j (subst (λ (z : ℕ). j < z) (zero-add (call_of I).count) h)

  checks_same : checks_of I ≡ checks_of J
  checks_same = rw (map_same, bytes_same, counts_same, hs.long, hd.long)

  answers : SameAnswer (answer_of I) (answer_of J)
  unfolding answer_of call_of
  answers =
      subst (λ (r : Answer). SameAnswer (answer_of I) r) (ap₂ (λ (cs : List Check) (n : ℕ). tested cs (answer_from (outcome_at (call_of J)) 0 n)) checks_same count_same)
      (through (checks_of I) _ _ (λ h. answer_alike (kind_of I.to) (outcome_at (call_of I)) (outcome_at (call_of J)) (call_of I).count 0 (alikes (map_whole_lem I h))))

  passed_same : (call_of I).passed ≡ (call_of J).passed
  unfolding call_of
  passed_same = ap all_pass checks_same

  written : T (call_of I).passed → Both (kind_of I.to) (outcome_at (call_of I)) (outcome_at (call_of J)) (dw I) (kind_fits I.to) (call_of I).count (bytes_from (outcome_at (call_of I)) (dw I) 0 (call_of I).count I.destination) (bytes_from (outcome_at (call_of J)) (dw I) 0 (call_of I).count d)
  unfolding call_of
  written h =
      bytes_alike (kind_of I.to) (outcome_at (call_of I)) (outcome_at (call_of J)) (dw I) (kind_fits I.to) (call_of I).count 0 I.destination d (alikes (map_whole_lem I h))
      (record { long = hd.long; at = λ j l. hd.at j (subst (λ (z : ℕ). j < z) (counts_meet_lem I h) l) })

  destinations : AlikeBytes (kind_of I.to) (dw I) (destination_of I) (destination_of J)
  unfolding destination_of
  destinations =
      subst (λ (r : List ℕ). AlikeBytes (kind_of I.to) (dw I) (destination_of I) r)
      (ap₂ (λ (t : Bool) (n : ℕ). cond t (bytes_from (outcome_at (call_of J)) (dw I) 0 n d) d) passed_same count_same)
      (go (call_of I).passed written')
    where
      written' : T (call_of I).passed → AlikeBytes (kind_of I.to) (dw I) (bytes_from (outcome_at (call_of I)) (dw I) 0 (call_of I).count I.destination) (bytes_from (outcome_at (call_of J)) (dw I) 0 (call_of I).count d)
      written' h = record {
        long = (written h).long;
        at = λ i l. (written h).at i (subst (λ (z : ℕ). i < z) (ap (λ (z : ℕ). z / dw I) (long_written I h) ∙ sym (counts_meet_lem I h)) l);
      }

      go : (t : Bool) {a b : List ℕ} → (T t → AlikeBytes (kind_of I.to) (dw I) a b) → AlikeBytes (kind_of I.to) (dw I) (cond t a I.destination) (cond t b d)
      go true h = h tt
      go false h = hd

  count_alike : (f : Fared) (m : ℕ) → ((j : ℕ) → j < m → Outcomes (kind_of I.to) (outcome_at (call_of I) j) (outcome_at (call_of J) j)) → count_below (outcome_at (call_of I)) f m ≡ count_below (outcome_at (call_of J)) f m
  count_alike f zero h = refl
  count_alike f (suc m) h = ap₂ (λ (b : Bool) (k : ℕ). cond b (suc k) k) (same_class (kind_of I.to) f (outcome_at (call_of I) m) (outcome_at (call_of J) m) (h m (omega arith))) (count_alike f m (λ j l. h j (omega arith)))

  converted_same : converted_of (call_of I).count (answer_of I) ≡ converted_of (call_of J).count (answer_of J)
  converted_same = same_converted (call_of I).count (answer_of I) (answer_of J) answers ∙ ap (λ (m : ℕ). converted_of m (answer_of J)) count_same

  below_alike : (f : Fared) → count_below (outcome_at (call_of I)) f (converted_of (call_of I).count (answer_of I)) ≡ count_below (outcome_at (call_of J)) f (converted_of (call_of J).count (answer_of J))
  below_alike f = count_alike f (converted_of (call_of I).count (answer_of I)) reached ∙ ap (count_below (outcome_at (call_of J)) f) converted_same
    where
      reached : (j : ℕ) → j < converted_of (call_of I).count (answer_of I) → Outcomes (kind_of I.to) (outcome_at (call_of I) j) (outcome_at (call_of J) j)
      reached j l = let w = converted_within I j l in alikes (map_whole_lem I w.0) j (omega arith) (omega arith)

  counts_alike : counts_of I ≡ counts_of J
  unfolding counts_of
  counts_alike = five_same (below_alike Mapped) (below_alike Exact) (below_alike Rounded) (below_alike Clamped) (below_alike Wrapped)

  same : (r : Reply) (d' : List ℕ) → Contract I r d' → SameButNans J r d'
  same r d' c = record {
    answer = subst (λ (x : Answer). SameAnswer x (answer_of J)) (sym c.answer) answers;
    counts = c.counts ∙ counts_alike;
    destination = subst (λ (x : List ℕ). AlikeBytes (kind_of I.to) (dw I) x (destination_of J)) (sym c.bytes) destinations;
  }

-- what meets the contract on I meets it, but for NaNs, on every J that differs in the patterns of NaNs alone
pub same_but_nans : (I J : Inputs) (r : Reply) (d : List ℕ) → AlikeInputs I J → Contract I r d → SameButNans J r d
same_but_nans I J r d h c = subst (λ (X : Inputs). SameButNans X r d) (sym h.codes) (same I J.source J.destination J.keys J.targets h.source h.destination h.keys h.targets r d c)

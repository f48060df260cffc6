-- A typed call meets the chunk call's contract: where its checks refuse it, and where its loop, which keeps the definitions' account of the elements, ends. For any pair of kinds, any entries and any types of elements.
use mathlib.Core.List.{List, ◌++◌, map}
use mathlib.Core.Bool.{Bool, true, false, cond, ◌&&◌, not}
use mathlib.Core.Path.{◌≡◌, refl, sym, ap, ap₂, subst, ◌∙◌}
use Prim.Native.Nat.{ℕ, ◌+◌, ◌-◌, ◌*◌, ◌/◌, ◌%◌, ◌^◌, ◌≤◌, ◌<◌}
use native.Mathlib.Omega.{arith}
use native.Mathlib.Nat.{mod-eq_of_lt, mul-div_cancel, mul-mod_left, le_of_eq, sub-zero, zero-mul}
use native.Mathlib.Numerals.{add-one}
use lib.ListN.{length, get_or, take, drop, set, length-map}
use lib.Dec.{T, ltb, eqb}
use Rattle.std.specs.Prelude.{Result, Ok, Err}
use borrow.Author.Tests.{lt-ltb, eq-eqb, eqb-true, eqb-false}
use Rattle.bytes_le.specs.Bytes.{to_le}
use Rattle.bytes_le.proofs.Widths.{element_within}
use Rattle.patterns.specs.Kind.{bits, width}
use Rattle.patterns.specs.Value.{value_of}
use Rattle.counts.specs.Counts.{count_of}
use Rattle.tallies.specs.Tally.{counts_in, no_tally, Countable, Tallied}
use Rattle.counts.specs.OneMore.{counted}
use Rattle.counts.specs.declared.Counts.{Counts}
use Rattle.counts.specs.declared.Fared.{Fared}
use Rattle.answers.specs.declared.Reply.{Reply}
use Rattle.kinds.specs.Table.{kind_of}
use Rattle.codes.specs.Codes.{rounding_of, range_of, wrap_barred}
use Rattle.answers.specs.declared.Refusal.{Refusal}
use Rattle.answers.specs.declared.Refusal.TheVariants as A
use Rattle.cast_spec.specs.Contract.{Contract}
use Rattle.cast_spec.proofs.Steps.{no_map}
use Rattle.cast_spec.proofs.Contract.{contract}
use Rattle.cast_spec.proofs.Checks.{answer_is, destination_is}
use Rattle.cast_spec.proofs.Widths.{kind_fits, width_pos}
use Rattle.cast_spec.proofs.Refusals.{RefusedBy, unknown, barred_wrap, mismatch, refused_meets}
use Rattle.cast_spec.proofs.Runs.{Run, done, refused, kept, one_more, count_le, refused_converted}
use Rattle.cast_spec.specs.Element.{Entry, Settings, lookup_of, found_or, outcome_of}
use Rattle.cast_spec.specs.Chunk.{Inputs, settings_of, codes_listed, map_whole, bytes_whole, call_of, outcome_at, answer_next, answer_from, answer_of, bytes_from, destination_of, converted_of, counts_below, counts_of, entries_from, Refuses}
use Rattle.answers.specs.Answer.{unconverted}
use Rattle.patterns.specs.Pattern.{as_f64}
use Rattle.cast_spec.specs.Fit.{unmapped, fit_of, filled}
use Rattle.cast_spec.proofs.Outcomes.{stored_pattern}
use Rattle.cast_spec.proofs.Filled.{outcome_filled}
use Rattle.steps.specs.Steps.{stepped}
use Rattle.steps.proofs.Found.{found_outcome}
use Rattle.typed_casts.specs.declared.Modes.{Modes}
use Rattle.typed.specs.Checks.{check_of}
use Rattle.typed.specs.Typed.{bytes_of, typed_inputs}
use Rattle.typed.proofs.Places.{map_set, mapped_at, mapped_below, entry_below, length_bytes, pattern_at_lem, set_bytes, entries_back}
use Rattle.answers.specs.Outcome.{Answer, Fit, Outcome, fit_as, stored_as}
use Rattle.answers.specs.declared.ElementRefusal.TheVariants.{FloatOutOfRange, NanOrInf, OutOfRange}
use Rattle.std.specs.Prelude.{Err, Ok, Option}

-- the elements below i are converted as the definitions say of the call I, of n elements and of w bytes for each in the destination: the bytes and the tally
pub record Inv (I : Inputs) (w n i : ℕ) (bytes ts : List ℕ) : Type 0 where
  pub six : length ts ≡ 6
  pub run : Run (outcome_at (call_of I)) w n (answer_of I) (destination_of I) i bytes
  pub counts : counts_in ts ≡ counts_below (outcome_at (call_of I)) i

-- ---- whole elements
whole : (n l w : ℕ) → 0 < w → l ≡ n * w → (l / w ≡ n) × (l % w ≡ 0)
whole n l w h e = (ap (λ (z : ℕ). z / w) e ∙ mul-div_cancel n h, ap (λ (z : ℕ). z % w) e ∙ mul-mod_left n w)

-- ---- a pair of kinds: the elements' and the entries' patterns, and how a destination's element of type Y is read from a stored pattern
abbrev pub settings : ℕ → ℕ → List Entry → ℕ → ℕ → Settings
settings from to es rounding range = record { from = kind_of from; to = kind_of to; rule = rounding_of rounding; range = range_of range; entries = es }

pub record Elements (X Y Z : Type 0) : Type 0 where
  pub from : ℕ
  pub to : ℕ
  pub from_listed : from < 11
  pub to_listed : to < 11
  pub source_bits : X → ℕ
  pub target_bits : Y → ℕ
  pub target_of : ℕ → Y
  pub entry_bits : Z → Entry
  pub source_fits : (x : X) → source_bits x < 2 ^ bits (kind_of from)
  pub key_fits : (e : Z) → (entry_bits e).key < 2 ^ bits (kind_of from)
  pub target_fits : (e : Z) → (entry_bits e).target < 2 ^ bits (kind_of to)
  -- a pattern that is stored is the one that the element then has
  pub keeps : (es : List Z) (rounding range : ℕ) (x : X) (b : ℕ) (f : Fared) → outcome_of (settings from to (map entry_bits es) rounding range) (source_bits x) ≡ stored_as b f
      → to_le (width (kind_of to)) (target_bits (target_of b)) ≡ to_le (width (kind_of to)) b

module _ {X Y Z : Type 0} (P : Elements X Y Z) (xs : List X) (ys : List Z) (rounding range : ℕ) where
  abbrev from : ℕ
  from = P.from

  abbrev to : ℕ
  to = P.to

  abbrev ps : List ℕ
  ps = map P.source_bits xs

  abbrev es : List Entry
  es = map P.entry_bits ys

  abbrev none : Entry
  none = record { key = 0; target = 0 }

  abbrev S : Settings
  S = settings from to es rounding range

  fits : (i : ℕ) → i < length ps → get_or ps i 0 < 2 ^ bits (kind_of from)
  fits = mapped_below P.source_bits (2 ^ bits (kind_of from)) P.source_fits xs

  -- what the call's codes say
  abbrev modes : Modes
  modes = record { rounding = rounding_of rounding; range = range_of range }

  -- what an element of the pattern x comes to for which the map gives f
  abbrev cast_of : Modes → Option ℕ → ℕ → Outcome
  cast_of m f x = found_or f (unmapped (kind_of from) (kind_of to) m.rounding m.range x)

  -- what the program has of an element is what its steps come to
  outcome_is : (x : ℕ) (f : Option ℕ) → f ≡ lookup_of (kind_of from) (value_of (kind_of from) x) es → cast_of modes f x ≡ outcome_of S x
  unfolding outcome_of
  outcome_is x f e = ap₂ found_or e (no_map (kind_of from) (kind_of to) modes.rounding modes.range es x (kind_of to) (value_of (kind_of from) x))

  -- what the map gives for the lowest bits of an element's pattern is what it gives for the pattern
  pub looked_up : (x : X) (p : ℕ) → p ≡ P.source_bits x → (f : Option ℕ) → f ≡ lookup_of (kind_of from) (value_of (kind_of from) (p % 2 ^ bits (kind_of from))) es → f ≡ lookup_of (kind_of from) (value_of (kind_of from) p) es
  looked_up x p e f h =
      h ∙ ap (λ (n : ℕ). lookup_of (kind_of from) (value_of (kind_of from) n) es) (mod-eq_of_lt (subst (λ (n : ℕ). n < 2 ^ bits (kind_of from)) (sym e) (P.source_fits x)))

  abbrev v : ℕ
  v = width (kind_of from)

  abbrev w : ℕ
  w = width (kind_of to)

  module _ (qs : List ℕ) where
    abbrev I : Inputs
    I = typed_inputs from to ps qs es rounding range

    source_whole : (length I.source / v ≡ length ps) × (length I.source % v ≡ 0)
    source_whole = whole (length ps) _ v (width_pos from P.from_listed) (length_bytes v ps)

    target_whole : (length I.destination / w ≡ length qs) × (length I.destination % w ≡ 0)
    target_whole = whole (length qs) _ w (width_pos to P.to_listed) (length_bytes w qs)

    keys_whole : (length I.keys / v ≡ length es) × (length I.keys % v ≡ 0)
    keys_whole = whole (length es) _ v (width_pos from P.from_listed) (length_bytes v (map (λ (e : Entry). e.key) es) ∙ ap (λ (z : ℕ). z * v) (length-map es (λ (e : Entry). e.key)))

    targets_whole : (length I.targets / w ≡ length es) × (length I.targets % w ≡ 0)
    targets_whole = whole (length es) _ w (width_pos to P.to_listed) (length_bytes w (map (λ (e : Entry). e.target) es) ∙ ap (λ (z : ℕ). z * w) (length-map es (λ (e : Entry). e.target)))

    codes_are : codes_listed I ≡ ltb rounding 5 && ltb range 3
    codes_are = simp (lt-ltb from 11 P.from_listed, lt-ltb to 11 P.to_listed)

    pub map_is_whole : map_whole I ≡ true
    map_is_whole = simp (eq-eqb _ _ keys_whole.1, eq-eqb _ _ targets_whole.1, eq-eqb _ _ (keys_whole.0 ∙ sym targets_whole.0))

    pub bytes_are_whole : bytes_whole I ≡ true
    bytes_are_whole = simp (eq-eqb _ _ source_whole.1, eq-eqb _ _ target_whole.1)

    -- ---- the call of the definitions
    settings_are : settings_of I ≡ S
    unfolding settings_of
    settings_are = ap {B = Settings} (λ (l : List Entry). record { from = kind_of from; to = kind_of to; rule = rounding_of rounding; range = range_of range; entries = l })
        (ap (entries_from v w I.keys I.targets 0) keys_whole.0 ∙ entries_back v w es none (λ j h. subst (λ (z : ℕ). (get_or es j none).key < z) (sym (kind_fits from)) (entry_below P.entry_bits (λ (e : Entry). e.key) _ P.key_fits none ys j h)) (λ j h. subst (λ (z : ℕ). (get_or es j none).target < z) (sym (kind_fits to)) (entry_below P.entry_bits (λ (e : Entry). e.target) _ P.target_fits none ys j h)))

    pub outcome_at_lem : (i : ℕ) → i < length ps → outcome_at (call_of I) i ≡ outcome_of S (get_or ps i 0)
    unfolding outcome_at call_of
    outcome_at_lem i h = ap₂ outcome_of settings_are (pattern_at_lem v ps i h (subst (λ (z : ℕ). get_or ps i 0 < z) (sym (kind_fits from)) (fits i h)))

    pub count_is : (call_of I).count ≡ length ps
    unfolding call_of
    count_is = source_whole.0

    module _ (codes : ltb rounding 5 && ltb range 3 ≡ true) (permitted : not (wrap_barred to range) ≡ true) (meet : length ps ≡ length qs) where
      passes : T (call_of I).passed
      unfolding call_of
      passes = let e : (call_of I).passed ≡ true = simp (codes_are ∙ codes, permitted, map_is_whole, bytes_are_whole, eq-eqb _ _ (source_whole.0 ∙ meet ∙ sym target_whole.0)) in subst T (sym e) tt

      first : Run (outcome_at (call_of I)) w (length ps) (answer_of I) (destination_of I) 0 I.destination
      first =
          let c : (call_of I).count ≡ length ps - 0 = count_is ∙ sym (sub-zero (length ps)) in record {
            answer = answer_is I passes ∙ ap (answer_from (outcome_at (call_of I)) 0) c;
            bytes = destination_is I passes ∙ ap (λ (n : ℕ). bytes_from (outcome_at (call_of I)) w 0 n I.destination) c
                ∙ ap (λ (z : ℕ). take z I.destination ++ bytes_from (outcome_at (call_of I)) w 0 (length ps - 0) (drop z I.destination)) (sym (zero-mul w));
          }

  -- ---- the loop, over a destination ds
  module _ (ds : List Y) where
    abbrev of : Y → ℕ
    of = P.target_bits

    abbrev read : ℕ → Y
    read = P.target_of

    abbrev In : Inputs
    In = I (map of ds)

    abbrev bytes : List Y → List ℕ
    bytes zs = bytes_of w (map of zs)

    abbrev R : Answer
    R = answer_of In

    abbrev W : List ℕ
    W = destination_of In

    abbrev o : ℕ → Outcome
    o = outcome_at (call_of In)

    abbrev reply : Answer → List ℕ → Reply
    reply a ts = record { answer = a; counts = counts_in ts }

    -- the counts of the elements below i are the call's, where its answer says that so many are converted
    counts_are : (i : ℕ) (a : Answer) → a ≡ R → converted_of (call_of In).count a ≡ i → counts_below o i ≡ counts_of In
    unfolding counts_of
    counts_are i a e h = ap (counts_below o) (sym h ∙ ap (converted_of (call_of In).count) e)

    -- ---- the checks before the elements
    long_map : length (map of ds) ≡ length ds
    long_map = length-map ds of

    long_source : length ps ≡ length xs
    long_source = length-map xs P.source_bits

    abbrev checks : Bool → Bool → Bool → Result Modes Refusal
    checks t b u = cond t (cond b (Err A.BarredWrap) (cond u (Ok modes) (Err (A.LengthMismatch (length xs) (length ds))))) (Err A.UnknownCode)

    pub refuses_call : (q : Refusal) (code : ℕ) → code ≡ to → Err q ≡ check_of (length xs) (length ds) code rounding range → (r : Reply) → r ≡ unconverted (Err q) → Contract In r (bytes ds)
    refuses_call q code is h r e = subst (λ (r : Reply). Contract In r (bytes ds)) (sym e) (refused_meets In (Err q) (by_tests (ltb rounding 5 && ltb range 3) refl (wrap_barred to range) refl (eqb (length xs) (length ds)) refl (h ∙ ap (λ (n : ℕ). check_of (length xs) (length ds) n rounding range) is)))
      where
        by : (p : Refusal) → q ≡ p → RefusedBy In (Err p) → RefusedBy In (Err q)
        by p k = subst (λ (z : Refusal). RefusedBy In (Err z)) (sym k)

        by_tests : (t : Bool) → ltb rounding 5 && ltb range 3 ≡ t → (b : Bool) → wrap_barred to range ≡ b → (u : Bool) → eqb (length xs) (length ds) ≡ u → Err q ≡ checks t b u → RefusedBy In (Err q)
        by_tests false e b g u f h = let k : q ≡ A.UnknownCode = cc in by A.UnknownCode k (unknown In (codes_are (map of ds) ∙ e))
        by_tests true e true g u f h = let k : q ≡ A.BarredWrap = cc in by A.BarredWrap k (barred_wrap In (codes_are (map of ds) ∙ e) (ap not g))
        by_tests true e false g true f h = let z : ◌≡◌ {A = ℕ} 0 1 = cc in absurd (omega arith)
        by_tests true e false g false f h =
            let n : length xs ≡ length ds → ⊥ = eqb-false (length xs) (length ds) f in
            let k : q ≡ A.LengthMismatch (length xs) (length ds) = cc in
            by (A.LengthMismatch (length xs) (length ds)) k
            (subst (RefusedBy In) (ap₂ (λ (s d : ℕ). Err (A.LengthMismatch s d)) ((source_whole (map of ds)).0 ∙ long_source) ((target_whole (map of ds)).0 ∙ long_map))
            (mismatch In (codes_are (map of ds) ∙ e) (ap not g) (map_is_whole (map of ds)) (bytes_are_whole (map of ds))
            (λ h. n (sym ((source_whole (map of ds)).0 ∙ long_source) ∙ h ∙ (target_whole (map of ds)).0 ∙ long_map))))

    -- what the checks leave where they refuse nothing
    record Passed (m : Modes) : Type 0 where
      pub modes_are : m ≡ modes
      pub meet : length xs ≡ length ds
      pub codes : ltb rounding 5 && ltb range 3 ≡ true
      pub permitted : wrap_barred to range ≡ false

    passed : (m : Modes) → Ok m ≡ check_of (length xs) (length ds) to rounding range → Passed m
    passed m h = by_tests (ltb rounding 5 && ltb range 3) refl (wrap_barred to range) refl (eqb (length xs) (length ds)) refl h
      where
        by_tests : (t : Bool) → ltb rounding 5 && ltb range 3 ≡ t → (b : Bool) → wrap_barred to range ≡ b → (u : Bool) → eqb (length xs) (length ds) ≡ u → Ok m ≡ checks t b u → Passed m
        by_tests false e b g u f h = let z : ◌≡◌ {A = ℕ} 0 1 = cc in absurd (omega arith)
        by_tests true e true g u f h = let z : ◌≡◌ {A = ℕ} 0 1 = cc in absurd (omega arith)
        by_tests true e false g false f h = let z : ◌≡◌ {A = ℕ} 0 1 = cc in absurd (omega arith)
        by_tests true e false g true f h = record { modes_are = cc; meet = eqb-true (length xs) (length ds) f; codes = e; permitted = g }

    -- ---- the elements, where the checks refuse nothing
    module _ (m : Modes) (code : ℕ) (code_is : code ≡ to) (checked : Ok m ≡ check_of (length xs) (length ds) code rounding range) where
      pass : Passed m
      pass = passed m (checked ∙ ap (λ (n : ℕ). check_of (length xs) (length ds) n rounding range) code_is)

      meet : length ps ≡ length ds
      meet = long_source ∙ pass.meet

      pub starts : (ts : List ℕ) → ts ≡ no_tally → Inv In w (length ps) 0 (bytes ds) ts
      starts ts none = record { six = ap length none; run = first (map of ds) pass.codes (ap not pass.permitted) (meet ∙ sym long_map); counts = ap counts_in none }

      pub ends : (i : ℕ) (zs : List Y) (ts : List ℕ) → i ≡ length xs → Inv In w (length ps) i (bytes zs) ts → (r : Reply) → r ≡ reply (Ok tt) ts → Contract In r (bytes zs)
      ends i zs ts e inv r is =
          let l : i ≡ length ps = e ∙ sym long_source in
          let d = done o w (length ps) R W i (bytes zs) inv.run l in
          subst (λ (r : Reply). Contract In r (bytes zs)) (sym is) (contract In (reply (Ok tt) ts) (bytes zs) d.0 (inv.counts ∙ counts_are i (Ok tt) d.0 (count_is (map of ds) ∙ sym l)) d.1)

      module _ (i : ℕ) (zs : List Y) (ts : List ℕ) (inv : Inv In w (length ps) i (bytes zs) ts) (inside : i < length xs) (long : length zs ≡ length ds) where
        below : i < length ps
        below = omega (arith, long_source)

        within : i < length zs
        within = omega (arith, pass.meet)

        -- each count is at most the position, which is below the length of the destination
        pub countable : length ds < 2 ^ 64 → Countable ts
        countable h = record { six = inv.six; room = λ f. let l : count_of f (counts_in ts) ≤ i = subst (λ (c : Counts). count_of f c ≤ i) (sym inv.counts) (count_le o f i) in omega (arith, pass.meet) }

        -- the pattern p and the fit of the element x, as the program has them
        abbrev Comes : X → ℕ → Option ℕ → Fit → Type 0
        Comes x p f t = (x ≡ get_or xs i x) × (p ≡ P.source_bits x) × (f ≡ lookup_of (kind_of from) (value_of (kind_of from) p) es) × (t ≡ stepped f (kind_of from) (kind_of to) m.rounding m.range p)

        -- a turn at the element of the pattern p and the fit t: where it is stored, the next turn goes on from it, and where it is refused, the call ends there
        pub record Turn (p : ℕ) (t : Fit) : Type 0 where
          pub goes_on : (b : ℕ) (how : Fared) → t ≡ fit_as b how → (y : Y) → y ≡ read b → (ts' : List ℕ) → Tallied how ts ts' → Inv In w (length ps) (i + 1) (bytes (set zs i y)) ts'
          pub ends_there : ((b : ℕ) (how : Fared) → t ≡ fit_as b how → ⊥) → (z : Outcome) → z ≡ filled (kind_of to) (as_f64 (kind_of from) p) t → (a : Answer) → a ≡ answer_next z i (Ok tt)
              → (r : Reply) → r ≡ reply a ts → Contract In r (bytes zs)

        module _ (x : X) (p : ℕ) (f : Option ℕ) (t : Fit) (comes : Comes x p f t) where
          abbrev comes_to : Outcome
          comes_to = cast_of m f p

          own : outcome_of S p ≡ comes_to
          own = sym (ap (λ (n : Modes). cast_of n f p) pass.modes_are ∙ outcome_is p f comes.2)

          outcome_at_i : comes_to ≡ o i
          outcome_at_i = sym own ∙ ap (outcome_of S) (comes.1 ∙ ap P.source_bits comes.0 ∙ mapped_at P.source_bits xs i x inside) ∙ sym (outcome_at_lem (map of ds) i below)

          fit_is : t ≡ fit_of comes_to
          fit_is = comes.3 ∙ found_outcome f (unmapped (kind_of from) (kind_of to) m.rounding m.range p)

          stores : (b : ℕ) (how : Fared) → t ≡ fit_as b how → (y : Y) → y ≡ read b → (ts' : List ℕ) → Tallied how ts ts' → Inv In w (length ps) (i + 1) (bytes (set zs i y)) ts'
          stores b how e y r ts' tallied =
              let room : i * w + w ≤ length (bytes zs) = element_within w (length zs) i (le_of_eq (sym (length_bytes w (map of zs) ∙ ap (λ (n : ℕ). n * w) (length-map zs of)))) within in
              let stored : comes_to ≡ stored_as b how = stored_pattern comes_to b how (sym fit_is ∙ e) in
              let k : o i ≡ stored_as b how = sym outcome_at_i ∙ stored in
              record {
                six = tallied.six;
                run = rw add-one (kept o w (length ps) R W i (bytes zs) inv.run below b how (bytes (set zs i y)) k room
                    (ap (bytes_of w) (map_set of zs i y) ∙ set_bytes w (map of zs) i (of y) (subst (λ (n : ℕ). i < n) (sym (length-map zs of)) within)
                    ∙ ap (λ (t : List ℕ). take (i * w) (bytes zs) ++ (t ++ drop w (drop (i * w) (bytes zs)))) (ap (λ (u : Y). to_le w (of u)) r ∙ P.keeps ys rounding range x b how (ap (outcome_of S) (sym comes.1) ∙ own ∙ stored))));
                counts = tallied.counts ∙ ap (counted how) inv.counts ∙ rw add-one (one_more o i b how k);
              }

          refuses : ((b : ℕ) (how : Fared) → t ≡ fit_as b how → ⊥) → (z : Outcome) → z ≡ filled (kind_of to) (as_f64 (kind_of from) p) t → (a : Answer) → a ≡ answer_next z i (Ok tt)
              → (r : Reply) → r ≡ reply a ts → Contract In r (bytes zs)
          refuses n z z_is a e r says =
              let same : z ≡ comes_to = z_is ∙ ap (filled (kind_of to) (as_f64 (kind_of from) p)) fit_is ∙ outcome_filled f (kind_of from) (kind_of to) m.rounding m.range p in
              let h : Refuses comes_to = refuses_of comes_to (λ b how c. n b how (fit_is ∙ ap fit_of c)) in
              let g = refused o w (length ps) R W i (bytes zs) inv.run below (subst Refuses outcome_at_i h) in
              let next : a ≡ answer_next comes_to i (Ok tt) = e ∙ ap (λ (u : Outcome). answer_next u i (Ok tt)) same in
              let is : a ≡ R = next ∙ ap (λ (u : Outcome). answer_next u i (Ok tt)) outcome_at_i ∙ sym g.0 in
              subst (λ (r : Reply). Contract In r (bytes zs)) (sym says) (contract In (reply a ts) (bytes zs) is (inv.counts ∙ counts_are i a is (ap (converted_of (call_of In).count) next ∙ refused_converted (call_of In).count i comes_to h)) g.1)
            where
              refuses_of : (u : Outcome) → ((b : ℕ) (how : Fared) → u ≡ stored_as b how → ⊥) → Refuses u
              refuses_of (Ok s) n = n s.pattern s.fared refl
              refuses_of (Err (NanOrInf v)) n = tt
              refuses_of (Err (OutOfRange v lo hi)) n = tt
              refuses_of (Err (FloatOutOfRange v lo hi)) n = tt

          pub turns : Turn p t
          turns = record { goes_on = stores; ends_there = refuses }

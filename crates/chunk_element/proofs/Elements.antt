-- One element with its map, and one place: what the parts of the call have in hand.
use mathlib.Core.Path.{◌≡◌, sym, ap, ap₂, subst, ◌∙◌}
use mathlib.Core.List.{List}
use Prim.Native.Nat.{ℕ, ◌+◌, ◌*◌, ◌^◌, ◌≤◌, ◌<◌}
use native.Mathlib.Nat.{le_of_eq, lt_of_lt_of_le}
use lib.ListN.{length}
use Rattle.bytes_le.specs.Bytes.{Place}
use Rattle.bytes_le.proofs.Sums.{byte_patterns}
use Rattle.patterns.specs.Kind.{Kind, bits, integer}
use Rattle.patterns.specs.Value.{value_of}
use Rattle.patterns.specs.Pattern.{as_f64}
use Rattle.kinds.specs.Row.{kind_in, FormatRow}
use Rattle.kinds.specs.declared.Format.{Format}
use Rattle.kinds.specs.declared.Format.TheVariants.{Integer, Float}
use Rattle.kinds.specs.declared.IntegerFormat.{IntegerFormat}
use Rattle.cast_spec.specs.Element.{found_or, lookup_of, outcome_of}
use Rattle.cast_spec.specs.Chunk.{answer_next, entries_from}
use Rattle.cast_spec.proofs.Steps.{no_map}
use Rattle.mapping.specs.Map.{MapBytes}
use Rattle.cast_spec.specs.Fit.{filled, fit_of, unmapped}
use Rattle.element.specs.Element.{FormatPattern}
use Rattle.steps.specs.Steps.{stepped}
use Rattle.routes.specs.Route.{RouteRow, source_of, target_of}
use Rattle.cast_spec.proofs.Filled.{outcome_filled}
use Rattle.steps.proofs.Found.{found_outcome}
use Rattle.routes.proofs.Routes.{route_row, source_kind, target_kind}
use Rattle.chunk_element.specs.declared.Settings.{Settings}
use Rattle.chunk_element.specs.Settings.{MapReady, Ready, settings_for}
use Rattle.chunk_element.specs.Place.{looked_up, refused_answer}
use Rattle.answers.specs.Outcome.{Fit, Outcome}
use Rattle.std.specs.Prelude.{None, Ok, Option}

-- ---- two formats that are rows of the table
pub format_pattern : (f : Format) (b : ℕ) → FormatRow f → b < 2 ^ bits (kind_in f) → FormatPattern b f
format_pattern (Integer f) b row h = record { positive = row.positive; at_most_64 = row.at_most_64; fits = h }
format_pattern (Float f) b row h = record { row = row; fits = h }

-- ---- the settings of a call
module _ (s : Settings) (ready : Ready s) where
  pub source_place : (src : List ℕ) (a : ℕ) → a + s.sw ≤ length src → Place src a s.sw
  source_place src a h = record { width = ready.source_width; within = h }

  pub target_place : (dst : List ℕ) (d : ℕ) → d + s.dw ≤ length dst → Place dst d s.dw
  target_place dst d h = record { width = ready.target_width; within = h }

  -- the pattern of a source element
  pub pattern_fits : (b : ℕ) → b < 256 ^ s.sw → b < 2 ^ bits (kind_in s.source)
  pattern_fits b h = lt_of_lt_of_le h (le_of_eq (byte_patterns s.sw ∙ ap (λ (z : ℕ). 2 ^ z) (sym ready.source_bits)))

  pub route_ready : RouteRow s.route
  route_ready = subst RouteRow (sym ready.route) (route_row s.source s.target ready.source_row ready.target_row)

  from_is : source_of s.route ≡ kind_in s.source
  from_is = ap source_of ready.route ∙ source_kind s.source s.target

  to_is : target_of s.route ≡ kind_in s.target
  to_is = ap target_of ready.route ∙ target_kind s.source s.target ready.source_row ready.target_row

  pub source_pattern : (b : ℕ) → b < 2 ^ bits (kind_in s.source) → b < 2 ^ bits (source_of s.route)
  source_pattern b = subst (λ (k : Kind). b < 2 ^ bits k) (sym from_is)

  -- ---- the steps of an element are the definition's
  module _ (keys targets : List ℕ) (b : ℕ) where
    outcome_is : outcome_of (settings_for s keys targets) b ≡ found_or (looked_up s keys targets b) (unmapped (kind_in s.source) (kind_in s.target) s.rounding s.range b)
    unfolding outcome_of
    outcome_is = ap (found_or (looked_up s keys targets b)) (sym (no_map (kind_in s.source) (kind_in s.target) s.rounding s.range (settings_for s keys targets).entries b (kind_in s.target) (value_of (kind_in s.source) b)))

    pub steps_are : (found : Option ℕ) → found ≡ looked_up s keys targets b → (r : Fit) → r ≡ stepped found (source_of s.route) (target_of s.route) s.rounding s.range b → r ≡ fit_of (outcome_of (settings_for s keys targets) b)
    steps_are found f r e =
        e ∙ ap₂ (λ (j k : Kind). stepped found j k s.rounding s.range b) from_is to_is
        ∙ ap (λ (l : Option ℕ). stepped l (kind_in s.source) (kind_in s.target) s.rounding s.range b) f
        ∙ found_outcome (looked_up s keys targets b) (unmapped (kind_in s.source) (kind_in s.target) s.rounding s.range b)
        ∙ ap fit_of (sym outcome_is)

    -- with the fields of a refusal
    pub refused_is : (i : ℕ) (r : Fit) → r ≡ fit_of (outcome_of (settings_for s keys targets) b) → refused_answer s b i r ≡ answer_next (outcome_of (settings_for s keys targets) b) i (Ok tt)
    refused_is i r e = ap (λ (o : Outcome). answer_next o i (Ok tt))
        (ap (filled (kind_in s.target) (as_f64 (kind_in s.source) b)) (e ∙ ap fit_of outcome_is)
        ∙ outcome_filled (looked_up s keys targets b) (kind_in s.source) (kind_in s.target) s.rounding s.range b ∙ sym outcome_is)

-- ---- the map
module _ (s : Settings) (keys targets : List ℕ) (map : MapReady s keys targets) (b : ℕ) (fits : b < 2 ^ bits (kind_in s.source)) where
  pub map_bytes : (n : ℕ) → bits (kind_in s.source) ≡ n → MapBytes n b keys targets s.entries s.sw s.dw
  map_bytes n e = record {
    fits = subst (λ (z : ℕ). b < 2 ^ z) e fits;
    key_bits = sym map.ready.source_bits ∙ e;
    key_width = map.ready.source_width;
    target_width = map.ready.target_width;
    whole_keys = map.keys_whole;
    whole_targets = map.targets_whole;
  }

  pub no_entries : s.entries ≡ 0 → None ≡ looked_up s keys targets b
  no_entries e = ap (λ (n : ℕ). lookup_of (kind_in s.source) (value_of (kind_in s.source) b) (entries_from s.sw s.dw keys targets 0 n)) (sym e)

  -- by a kind that the source's is
  pub looked_up_lem : (k : Kind) → k ≡ kind_in s.source → (r : Option ℕ) → r ≡ lookup_of k (value_of k b) (settings_for s keys targets).entries → r ≡ looked_up s keys targets b
  looked_up_lem k e r f = f ∙ ap (λ (j : Kind). lookup_of j (value_of j b) (settings_for s keys targets).entries) e

  pub integer_kind : (f : IntegerFormat) → s.source ≡ Integer f → integer f.signed (8 * s.sw) ≡ kind_in s.source
  integer_kind f e = ap (integer f.signed) (sym map.ready.source_bits ∙ ap (λ (g : Format). bits (kind_in g)) e) ∙ ap kind_in (sym e)

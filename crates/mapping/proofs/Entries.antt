-- The lookup over the entries' bytes, one entry at a time.
use mathlib.Core.Path.{◌≡◌, sym, ap, ap₂, subst, ◌∙◌}
use mathlib.Core.Bool.{Bool, true, false, cond}
use mathlib.Core.List.{List}
use Prim.Native.Nat.{ℕ, suc, ◌+◌, ◌-◌, ◌*◌, ◌^◌, ◌≤◌, ◌<◌}
use native.Mathlib.Nat.{le_of_eq, sub-eq-zero_of_le, sub-zero}
use native.Mathlib.Numerals.{add-one}
use native.Mathlib.Omega.{arith}
use Rattle.bytes_le.specs.Bytes.{pattern_at, Place}
use Rattle.bytes_le.proofs.Sums.{byte_patterns}
use Rattle.bytes_le.proofs.Widths.{element_place}
use Rattle.patterns.specs.Kind.{Kind}
use Rattle.patterns.specs.Value.{value_of}
use Rattle.cast_spec.specs.Element.{matches, lookup_of}
use Rattle.cast_spec.specs.Chunk.{entries_from}
use Rattle.mapping.specs.Map.{MapBytes}
use Rattle.std.specs.Prelude.{None, Option, Some}

-- ---- the entry at j lies within the bytes of n entries
module _ {bits b : ℕ} {keys targets : List ℕ} {n sw dw : ℕ} (M : MapBytes bits b keys targets n sw dw) where
  pub key_place : {j : ℕ} → j < n → Place keys (j * sw) sw
  key_place {j} h = element_place keys sw n j M.key_width (le_of_eq (sym M.whole_keys)) h

  pub target_place : {j : ℕ} → j < n → Place targets (j * dw) dw
  target_place {j} h = element_place targets dw n j M.target_width (le_of_eq (sym M.whole_targets)) h

  pub key_fits : {key : ℕ} → key < 256 ^ sw → key < 2 ^ bits
  key_fits {key} h = subst (λ (z : ℕ). key < z) (byte_patterns sw ∙ ap (λ (z : ℕ). 2 ^ z) M.key_bits) h

-- ---- the lookup over m entries from the position j on
abbrev pub lookup_from : Kind → ℕ → List ℕ → List ℕ → ℕ → ℕ → ℕ → ℕ → Option ℕ
lookup_from k b keys targets sw dw j m = lookup_of k (value_of k b) (entries_from sw dw keys targets j m)

-- no entry before j of n matches
pub record Passed (k : Kind) (b : ℕ) (keys targets : List ℕ) (n sw dw j : ℕ) : Type 0 where
  pub same : lookup_from k b keys targets sw dw 0 n ≡ lookup_from k b keys targets sw dw j (n - j)

-- t says whether b matches a key
abbrev pub Matched : Kind → ℕ → ℕ → Bool → Type 0
Matched k b key t = t ≡ matches (value_of k b) (value_of k key)

module _ {k : Kind} {b : ℕ} {keys targets : List ℕ} {n sw dw : ℕ} where
  pub none_passed : Passed k b keys targets n sw dw 0
  none_passed = record { same = ap (lookup_from k b keys targets sw dw 0) (sym (sub-zero n)) }

  module _ {j : ℕ} (P : Passed k b keys targets n sw dw j) where
    pub all_passed : n ≤ j → None ≡ lookup_from k b keys targets sw dw 0 n
    all_passed h = sym (P.same ∙ ap (lookup_from k b keys targets sw dw j) (sub-eq-zero_of_le h))

    module _ (h : j < n) {key : ℕ} (read : key ≡ pattern_at sw keys j) {t : Bool} (test : Matched k b key t) where
      turn : lookup_from k b keys targets sw dw 0 n ≡ cond t (Some (pattern_at dw targets j)) (lookup_from k b keys targets sw dw (j + 1) (n - (j + 1)))
      turn =
          P.same
          ∙ ap (lookup_from k b keys targets sw dw j) (left n j h)
          ∙ ap₂ (λ (t : Bool) (i : ℕ). cond t (Some (pattern_at dw targets j)) (lookup_from k b keys targets sw dw i (n - (j + 1))))
          (sym (test ∙ ap (λ (z : ℕ). matches (value_of k b) (value_of k z)) read))
          (sym (add-one j))
        where
          left : (n j : ℕ) → j < n → n - j ≡ suc (n - (j + 1))
          left n j h = omega arith

      pub found : {target : ℕ} → t ≡ true → target ≡ pattern_at dw targets j → Some target ≡ lookup_from k b keys targets sw dw 0 n
      found e f = sym (turn ∙ ap₂ (λ (t : Bool) (z : ℕ). cond t (Some z) (lookup_from k b keys targets sw dw (j + 1) (n - (j + 1)))) e (sym f))

      pub passed : t ≡ false → Passed k b keys targets n sw dw (j + 1)
      passed e = record { same = turn ∙ ap (λ (t : Bool). cond t (Some (pattern_at dw targets j)) (lookup_from k b keys targets sw dw (j + 1) (n - (j + 1)))) e }

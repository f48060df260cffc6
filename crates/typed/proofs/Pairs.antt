-- The five pairs of kinds, each by its types and its patterns.
use mathlib.Core.Path.{◌≡◌, refl, ap}
use mathlib.Core.List.{List, [], ◌∷◌, map}
use Prim.Native.Nat.{ℕ}
use lib.Ieee.{Float}
use lib.IntN.{ℤ}
use Rattle.cast_spec.specs.Element.{Entry}
use Rattle.typed_values.specs.Bits.{f64_bits, f32_bits, i64_bits, u8_bits, i32_bits}
use Rattle.typed_patterns.specs.Values.{u8_of, i32_of, f32_of}
use Rattle.typed_patterns.specs.Pairs as spec
use Rattle.typed_patterns.specs.Pairs.{PairLaws}
use Rattle.typed_patterns.proofs.Pairs as laws
use Rattle.typed_entries.specs.Entries.{entry_of}
use Rattle.typed_entries.specs.declared.EntryF64U8.{EntryF64U8}
use Rattle.typed_entries.specs.declared.EntryF64I32.{EntryF64I32}
use Rattle.typed_entries.specs.declared.EntryF32U8.{EntryF32U8}
use Rattle.typed_entries.specs.declared.Entry as E
use Rattle.typed_entries.specs.declared.EntryI64F32.{EntryI64F32}
use Rattle.typed.proofs.Turns.{Elements, settings}

-- ---- any pair that has the laws, with entries of a type Z
module _ {X Y Z : Type 0} (from to : ℕ) (source : X → ℕ) (target : Y → ℕ) (read : ℕ → Y) (key_of : Z → X) (target_of : Z → Y) where
  pub by_parts : (zs : List Z) → map (entry_of source target key_of target_of) zs ≡ map (spec.pair_entry source target) (map (λ (z : Z). (key_of z, target_of z)) zs)
  by_parts [] = refl
  by_parts (z ∷ zs) = ap (λ (es : List Entry). entry_of source target key_of target_of z ∷ es) (by_parts zs)

  abbrev pub elements : PairLaws from to source target read → Elements X Y Z
  elements l = record {
    from = from;
    to = to;
    from_listed = l.from_listed;
    to_listed = l.to_listed;
    source_bits = source;
    target_bits = target;
    target_of = read;
    entry_bits = entry_of source target key_of target_of;
    source_fits = l.source_fits;
    key_fits = λ e. l.source_fits (key_of e);
    target_fits = λ e. l.target_fits (target_of e);
    keeps = λ es rounding range x b f h. l.keeps (settings from to (map (entry_of source target key_of target_of) es) rounding range) refl refl (map (λ (z : Z). (key_of z, target_of z)) es) (by_parts es) x b f h;
  }

-- ---- the five
abbrev pub f64_to_u8 : Elements Float ℕ EntryF64U8
f64_to_u8 = elements 9 4 f64_bits u8_bits u8_of (λ e. e.key) (λ e. e.target) laws.f64_to_u8

abbrev pub f64_to_i32 : Elements Float ℤ EntryF64I32
f64_to_i32 = elements 9 2 f64_bits i32_bits i32_of (λ e. e.key) (λ e. e.target) laws.f64_to_i32

abbrev pub f32_to_u8 : Elements Float ℕ EntryF32U8
f32_to_u8 = elements 8 4 f32_bits u8_bits u8_of (λ e. e.key) (λ e. e.target) laws.f32_to_u8

abbrev pub f64_to_f32 : Elements Float Float E.Entry
f64_to_f32 = elements 9 8 f64_bits f32_bits f32_of (λ e. e.key) (λ e. e.target) laws.f64_to_f32

abbrev pub i64_to_f32 : Elements ℤ Float EntryI64F32
i64_to_f32 = elements 3 8 i64_bits f32_bits f32_of (λ e. e.key) (λ e. e.target) laws.i64_to_f32

-- To be believed: an entry of each pair as the patterns of its key and its target.
use Rattle.std.specs.Prelude.{ℕ}
use Rattle.cast_spec.specs.Element as E
use Rattle.typed_values.specs.Bits.{f64_bits, f32_bits, i64_bits, i32_bits, u8_bits}
use Rattle.typed_entries.specs.declared.EntryF64U8.{EntryF64U8}
use Rattle.typed_entries.specs.declared.EntryF64I32.{EntryF64I32}
use Rattle.typed_entries.specs.declared.EntryF32U8.{EntryF32U8}
use Rattle.typed_entries.specs.declared.Entry.{Entry}
use Rattle.typed_entries.specs.declared.EntryI64F32.{EntryI64F32}

abbrev pub f64_u8 : EntryF64U8 → E.Entry
f64_u8 e = record { key = f64_bits e.key; target = u8_bits e.target }

abbrev pub f64_i32 : EntryF64I32 → E.Entry
f64_i32 e = record { key = f64_bits e.key; target = i32_bits e.target }

abbrev pub f32_u8 : EntryF32U8 → E.Entry
f32_u8 e = record { key = f32_bits e.key; target = u8_bits e.target }

abbrev pub f64_f32 : Entry → E.Entry
f64_f32 e = record { key = f64_bits e.key; target = f32_bits e.target }

abbrev pub i64_f32 : EntryI64F32 → E.Entry
i64_f32 e = record { key = i64_bits e.key; target = f32_bits e.target }

-- an entry of any pair, by its key and its target and by the patterns of both
abbrev pub entry_of : {X K T : Type 0} → (K → ℕ) → (T → ℕ) → (X → K) → (X → T) → X → E.Entry
entry_of key_pattern target_pattern key target e = record { key = key_pattern (key e); target = target_pattern (target e) }

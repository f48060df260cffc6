-- Each way out is one of the laws of the checks.
use Rattle.std.proofs.Common.{◌≡◌, ℕ, ◌&&◌, not, true, false, eqb, ◌/◌, ◌%◌, length, sym, ap, ap₂, ◌∙◌}
use mathlib.Core.Bool.{Bool}
use Rattle.answers.specs.declared.Refusal.TheVariants as A
use Rattle.cast_spec.specs.Chunk.{Inputs, inputs, map_whole, bytes_whole, sw, dw}
use Rattle.cast_spec.proofs.Refusals.{unknown, barred_wrap, broken_map, broken_element, mismatch}
use Rattle.chunk_element.specs.declared.Settings.{Settings}
use Rattle.chunk_settings.specs.Settings.{settings_by}
use Rattle.chunk_checks.proofs.Exits.{refused, passed}
use Rattle.chunk_checks.proofs.check.Goals as goal
use Rattle.std.specs.Prelude.{Ok, Err}

-- what the two tests of lengths tell, by the settings that the program has
map_told : (I : Inputs) (s : Settings) (b : Bool) → s ≡ settings_by I.from I.to I.rounding I.range (length I.keys)
    → b ≡ eqb (length I.keys % s.sw) 0 && eqb (length I.targets % s.dw) 0 && eqb (length I.keys / s.sw) (length I.targets / s.dw) → map_whole I ≡ b
map_told I s b e t = sym (t ∙ ap (λ (s : Settings). eqb (length I.keys % s.sw) 0 && eqb (length I.targets % s.dw) 0 && eqb (length I.keys / s.sw) (length I.targets / s.dw)) e)

bytes_told : (I : Inputs) (s : Settings) (b : Bool) → s ≡ settings_by I.from I.to I.rounding I.range (length I.keys)
    → b ≡ eqb (length I.source % s.sw) 0 && eqb (length I.destination % s.dw) 0 → bytes_whole I ≡ b
bytes_told I s b e t = sym (t ∙ ap (λ (s : Settings). eqb (length I.source % s.sw) 0 && eqb (length I.destination % s.dw) 0) e)

pub returns-then-not-codes_listed : goal.returns-then-not-codes_listed
returns-then-not-codes_listed c =
    let a = c.args in
    let I = inputs a.src.now a.dst.now a.keys.now a.targets.now a.from a.to a.rounding a.range in
    refused I A.UnknownCode (unknown I (sym c.if-not-codes_listed.ensures))

pub returns-then-wrap_barred : goal.returns-then-wrap_barred
returns-then-wrap_barred c =
    let a = c.args in
    let I = inputs a.src.now a.dst.now a.keys.now a.targets.now a.from a.to a.rounding a.range in
    refused I A.BarredWrap (barred_wrap I (sym c.if-not-codes_listed.ensures) (ap not (sym c.if-wrap_barred.ensures)))

pub returns-then-not-whole_map : goal.returns-then-not-whole_map
returns-then-not-whole_map c =
    let a = c.args in
    let I = inputs a.src.now a.dst.now a.keys.now a.targets.now a.from a.to a.rounding a.range in
    let s = c.settings_of-s in
    refused I A.BrokenMap (broken_map I (sym c.if-not-codes_listed.ensures) (ap not (sym c.if-wrap_barred.ensures)) (map_told I s.result false s.ensures c.if-not-whole_map.ensures))

pub returns-then-not-whole_elements : goal.returns-then-not-whole_elements
returns-then-not-whole_elements c =
    let a = c.args in
    let I = inputs a.src.now a.dst.now a.keys.now a.targets.now a.from a.to a.rounding a.range in
    let s = c.settings_of-s in
    refused I A.BrokenElement
    (broken_element I (sym c.if-not-codes_listed.ensures) (ap not (sym c.if-wrap_barred.ensures)) (map_told I s.result true s.ensures c.if-not-whole_map.ensures) (bytes_told I s.result false s.ensures c.if-not-whole_elements.ensures))

pub returns-then-n-m : goal.returns-then-n-m
returns-then-n-m c =
    let a = c.args in
    let I = inputs a.src.now a.dst.now a.keys.now a.targets.now a.from a.to a.rounding a.range in
    let s = c.settings_of-s in
    let n : length I.source / s.result.sw ≡ length I.source / sw I = ap (λ (s : Settings). length I.source / s.sw) s.ensures in
    let m : length I.destination / s.result.dw ≡ length I.destination / dw I = ap (λ (s : Settings). length I.destination / s.dw) s.ensures in
    ap₂ (λ (s d : ℕ). Err (A.LengthMismatch s d)) n m ∙ refused I _
    (mismatch I (sym c.if-not-codes_listed.ensures) (ap not (sym c.if-wrap_barred.ensures)) (map_told I s.result true s.ensures c.if-not-whole_map.ensures) (bytes_told I s.result true s.ensures c.if-not-whole_elements.ensures) (λ d. c.if-n-m.true (n ∙ d ∙ sym m)))

pub returns : goal.returns
returns c =
    let a = c.args in
    let I = inputs a.src.now a.dst.now a.keys.now a.targets.now a.from a.to a.rounding a.range in
    let s = c.settings_of-s in
    let n : length I.source / s.result.sw ≡ length I.source / sw I = ap (λ (s : Settings). length I.source / s.sw) s.ensures in
    let m : length I.destination / s.result.dw ≡ length I.destination / dw I = ap (λ (s : Settings). length I.destination / s.dw) s.ensures in
    ap (λ (s : Settings). Ok (record { settings = s; count = length I.source / s.sw })) s.ensures
    ∙ passed I (sym c.if-not-codes_listed.ensures) (ap not (sym c.if-wrap_barred.ensures)) (map_told I s.result true s.ensures c.if-not-whole_map.ensures) (bytes_told I s.result true s.ensures c.if-not-whole_elements.ensures) (sym n ∙ c.if-n-m.false ∙ m)

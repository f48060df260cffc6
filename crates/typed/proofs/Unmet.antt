-- Numbers that a typed call cannot give: "Typed entries cannot meet 2 or 3", and to an integer kind not 8, for there wrap is not barred.
use mathlib.Core.Path.{◌≡◌, refl, sym, ap, ◌∙◌}
use mathlib.Core.Bool.{Bool, true, false, ◌&&◌, not, true≢false}
use mathlib.Core.List.{List, map}
use Prim.Native.Nat.{ℕ}
use lib.Dec.{eqb}
use Rattle.patterns.specs.Kind.{is_float}
use Rattle.kinds.specs.Table.{kind_of}
use Rattle.answers.specs.Answer.{number_of}
use Rattle.answers.specs.declared.Reply.{Reply}
use Rattle.typed.specs.Typed.{TypedContract}
use Rattle.typed.proofs.Turns.{Elements, map_is_whole, bytes_are_whole}
use Rattle.typed.proofs.Pairs as pairs

-- whatever a typed call of the pair is handed, its answer has not the number n
abbrev pub Never : ℕ → {X Y Z : Type 0} → Elements X Y Z → Type 0
Never n {X} {Y} {Z} P = (xs : List X) (ys : List Z) (rounding range : ℕ) (qs ds : List ℕ) (r : Reply) → TypedContract P.from P.to (map P.source_bits xs) qs (map P.entry_bits ys) rounding range r ds → number_of r.answer ≡ n → ⊥

-- ---- whole elements: any pair
pub never_2 : {X Y Z : Type 0} (P : Elements X Y Z) → Never 2 P
never_2 P xs ys rounding range qs ds r c e = true≢false (sym (map_is_whole P xs ys rounding range qs) ∙ (c.demand1.broken_map.0 e).2)

pub never_3 : {X Y Z : Type 0} (P : Elements X Y Z) → Never 3 P
never_3 P xs ys rounding range qs ds r c e = true≢false (sym (bytes_are_whole P xs ys rounding range qs) ∙ (c.demand1.broken_element.0 e).3)

-- ---- an integer target
never_8 : {X Y Z : Type 0} (P : Elements X Y Z) → is_float (kind_of P.to) ≡ false → Never 8 P
never_8 P whole xs ys rounding range qs ds r c e = go (eqb range 2) (ap (λ (b : Bool). not (eqb range 2 && b)) (sym whole) ∙ (c.demand1.barred_wrap.0 e).1)
  where
    go : (a : Bool) → not (a && false) ≡ false → ⊥
    go true e = true≢false e
    go false e = true≢false e

pub f64_to_u8_never_8 : Never 8 pairs.f64_to_u8
f64_to_u8_never_8 = never_8 pairs.f64_to_u8 refl

pub f64_to_i32_never_8 : Never 8 pairs.f64_to_i32
f64_to_i32_never_8 = never_8 pairs.f64_to_i32 refl

pub f32_to_u8_never_8 : Never 8 pairs.f32_to_u8
f32_to_u8_never_8 = never_8 pairs.f32_to_u8 refl

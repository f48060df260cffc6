-- To be believed: the table of kinds.
use Rattle.std.specs.Prelude.{true, false, cond, ℕ, ◌-◌, ◌*◌, ◌^◌, eqb, ltb}
use Rattle.patterns.specs.Kind.{Kind, integer, f16, f32, f64}

-- 0, 1, 2, 3 are i8, i16, i32, i64; 4, 5, 6, 7 are u8, u16, u32, u64; 8, 9 are f32, f64; f16 "joins as kind code 10"
abbrev pub kind_of : ℕ → Kind
kind_of c = cond (ltb c 4) (integer true (8 * 2 ^ c)) (cond (ltb c 8) (integer false (8 * 2 ^ (c - 4))) (cond (eqb c 8) f32 (cond (eqb c 9) f64 f16)))

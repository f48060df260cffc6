-- The listed kinds: what holds of each holds of any code's, what the row of a code has, and that it gives its kind back.
use mathlib.Core.Path.{◌≡◌, refl, sym, ap, subst}
use mathlib.Core.Bool.{Bool, true, false, cond}
use mathlib.Core.Logic.{inl, inr}
use Prim.Native.Nat.{ℕ, ◌-◌, ◌*◌, ◌^◌, ◌≤◌, ◌<◌}
use native.Mathlib.Omega.{arith}
use lib.Dec.{eqb, leb, ltb}
use lib.Pow.{pow_mono, pow_pos}
use borrow.Author.Tests.{le-ltb, lt-ltb, le-leb, lt-leb}
use Rattle.grid.proofs.Neighbours.{cut}
use Rattle.patterns.specs.Kind.{Kind, integer, f16, f32, f64, is_float, width}
use Rattle.kinds.specs.Table.{kind_of}
use Rattle.kinds.specs.Row.{integer_format, format_of, row_of, kind_in, IntegerRow, FormatRow}
use Rattle.kinds.specs.declared.KindRow.{KindRow}

-- what holds of each listed kind holds of a listed code's
pub by_kind {ℓ} : (P : Kind → Type ℓ) → ((s : Bool) (c : ℕ) → c < 4 → P (integer s (8 * 2 ^ c))) → P f32 → P f64 → P f16 → (code : ℕ) → code < 11 → P (kind_of code)
by_kind P i single double half code h = cut code 4
    (λ (l : code < 4). subst P (sym (signed l)) (i true code l))
    (λ (l : 4 ≤ code). cut code 8
    (λ (m : code < 8). subst P (sym (unsigned l m)) (i false (code - 4) (omega arith)))
    (λ (m : 8 ≤ code). cut code 9
    (λ (n : code < 9). subst (λ (c : ℕ). P (kind_of c)) (eight m n) single)
    (λ (n : 9 ≤ code). cut code 10
    (λ (o : code < 10). subst (λ (c : ℕ). P (kind_of c)) (nine n o) double)
    (λ (o : 10 ≤ code). subst (λ (c : ℕ). P (kind_of c)) (ten o h) half))))
  where
    signed : code < 4 → kind_of code ≡ integer true (8 * 2 ^ code)
    signed l = simp (lt-ltb code 4 l)

    unsigned : 4 ≤ code → code < 8 → kind_of code ≡ integer false (8 * 2 ^ (code - 4))
    unsigned l m = simp (le-ltb code 4 l, lt-ltb code 8 m)

    eight : 8 ≤ code → code < 9 → 8 ≡ code
    eight m n = omega arith

    nine : 9 ≤ code → code < 10 → 9 ≡ code
    nine m n = omega arith

    ten : 10 ≤ code → code < 11 → 10 ≡ code
    ten m n = omega arith

-- what holds of every integer kind of bytes and of each float kind holds of any code's
pub by_any_code {ℓ} : (P : Kind → Type ℓ) → ((s : Bool) (c : ℕ) → P (integer s (8 * 2 ^ c))) → P f32 → P f64 → P f16 → (code : ℕ) → P (kind_of code)
by_any_code P i single double half code = go (ltb code 4) (ltb code 8) (eqb code 8) (eqb code 9)
  where
    go : (a b c d : Bool) → P (cond a (integer true (8 * 2 ^ code)) (cond b (integer false (8 * 2 ^ (code - 4))) (cond c f32 (cond d f64 f16))))
    go true b c d = i true code
    go false true c d = i false (code - 4)
    go false false true d = single
    go false false false true = double
    go false false false false = half

-- the codes of the float kinds are those from 8 on
pub float_from_8 : (code : ℕ) → leb 8 code ≡ is_float (kind_of code)
float_from_8 code = cut code 8
    (λ (l : code < 8). cut code 4
    (λ (m : code < 4). simp (lt-leb 8 code l, lt-ltb code 4 m))
    (λ (m : 4 ≤ code). simp (lt-leb 8 code l, le-ltb code 4 m, lt-ltb code 8 l)))
    (λ (l : 8 ≤ code). simp (le-leb 8 code l, le-ltb code 4 (four l), le-ltb code 8 l) (by_last (eqb code 8) (eqb code 9)))
  where
    four : 8 ≤ code → 4 ≤ code
    four l = omega arith

    by_last : (a b : Bool) → true ≡ is_float (cond a f32 (cond b f64 f16))
    by_last true b = refl
    by_last false true = refl
    by_last false false = refl

-- ---- the row
integer_row : (s : Bool) (c : ℕ) → c < 4 → IntegerRow (integer_format s (8 * 2 ^ c))
integer_row s c h = record { positive = omega (arith, pow_pos c); at_most_64 = omega (arith, pow_mono {i = c} {j = 3} (omega arith)); low = refl; high = refl }

-- the bytes of an element
pub row_width : (k : Kind) (row : KindRow) → row ≡ row_of k → row.bytes ≡ width k
row_width k row e = ap (λ (r : KindRow). r.bytes) e

pub format_row : (code : ℕ) → code < 11 → FormatRow (format_of (kind_of code))
unfolding format_of
format_row code h = by_kind (λ (k : Kind). FormatRow (format_of k)) integer_row (inl refl) (inr (inl refl)) (inr (inr refl)) code h

pub kind_back : (code : ℕ) → code < 11 → kind_in (format_of (kind_of code)) ≡ kind_of code
unfolding format_of
kind_back code h = by_kind (λ (k : Kind). kind_in (format_of k) ≡ k) (λ s c l. refl) refl refl refl code h

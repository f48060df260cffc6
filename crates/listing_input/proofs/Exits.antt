-- The number of a refusal by the checks that led there, and what none tells.
use mathlib.Core.Path.{◌≡◌, refl, sym, subst}
use mathlib.Core.Bool.{Bool, true, false, ◌&&◌, cond}
use mathlib.Core.List.{List}
use Prim.Native.Nat.{ℕ, ◌≤◌, ◌<◌}
use native.Mathlib.Omega.{arith}
use lib.Dec.{ltb, leb}
use lib.ListN.{length, get_or}
use borrow.Author.Tests.{lt-ltb, le-ltb, le-leb, lt-leb, ltb-false, leb-true}
use Rattle.codes.proofs.Listed.{listed_kinds}
use Rattle.cast_spec.specs.Chunk.{codes_listed, wrap_permitted}
use Rattle.listing_input.specs.Input.{map_end, call, refusal_of}
use Rattle.listing_input.specs.Layouts.{HeadIn}

-- ---- the number by the checks
module _ (s : List ℕ) where
  pub short : length s < 6 → 1 ≡ refusal_of s
  unfolding refusal_of
  short h = sym (simp (lt-ltb (length s) 6 h))

  module _ (six : 6 ≤ length s) where
    pub unlisted : codes_listed (call s) ≡ false → 1 ≡ refusal_of s
    unfolding refusal_of
    unlisted a = sym (simp (le-ltb (length s) 6 six, a))

    module _ (a : codes_listed (call s) ≡ true) where
      pub head_in : HeadIn s
      head_in = let c = listed_kinds (get_or s 0 0) (get_or s 1 0) (get_or s 2 0) (get_or s 3 0) a in record { six = six; from = c.0; to = c.1 }

      pub barred : wrap_permitted (call s) ≡ false → 8 ≡ refusal_of s
      unfolding refusal_of
      barred w = sym (simp (le-ltb (length s) 6 six, a, w))

      module _ (w : wrap_permitted (call s) ≡ true) (m : ℕ) (ends : m ≡ map_end s) where
        pub map_past : 8192 < m → 2 ≡ refusal_of s
        unfolding refusal_of
        map_past h = sym (simp (le-ltb (length s) 6 six, a, w, lt-leb (map_end s) 8192 (subst (λ (z : ℕ). 8192 < z) ends h)))

        module _ (near : m ≤ 8192) where
          near_leb : leb (map_end s) 8192 ≡ true
          near_leb = le-leb (map_end s) 8192 (subst (λ (z : ℕ). z ≤ 8192) ends near)

          pub map_missing : length s < m → 2 ≡ refusal_of s
          unfolding refusal_of
          map_missing h = sym (simp (le-ltb (length s) 6 six, a, w, near_leb, lt-leb (map_end s) (length s) (subst (λ (z : ℕ). length s < z) ends h)))

          module _ (there : m ≤ length s) where
            there_leb : leb (map_end s) (length s) ≡ true
            there_leb = le-leb (map_end s) (length s) (subst (λ (z : ℕ). z ≤ length s) ends there)

            pub longer : 8192 < length s → 3 ≡ refusal_of s
            unfolding refusal_of
            longer h = sym (simp (le-ltb (length s) 6 six, a, w, near_leb, there_leb, lt-leb (length s) 8192 h))

            pub none : length s ≤ 8192 → 0 ≡ refusal_of s
            unfolding refusal_of
            none h = sym (simp (le-ltb (length s) 6 six, a, w, near_leb, there_leb, le-leb (length s) 8192 h))

-- ---- what no refusal tells of an input
abbrev numbered : Bool → Bool → Bool → Bool → Bool → Bool → ℕ
numbered a b w c d e = cond a 1 (cond b (cond w (cond (c && d) (cond e 0 3) 2) 8) 1)

by_checks : (a b w c d e : Bool) → numbered a b w c d e ≡ 0 → (a ≡ false) × (b ≡ true) × (d ≡ true) × (e ≡ true)
by_checks true b w c d e z = absurd (omega arith)
by_checks false false w c d e z = absurd (omega arith)
by_checks false true false c d e z = absurd (omega arith)
by_checks false true true false d e z = absurd (omega arith)
by_checks false true true true false e z = absurd (omega arith)
by_checks false true true true true false z = absurd (omega arith)
by_checks false true true true true true z = (refl, refl, refl, refl)

module _ (s : List ℕ) (z : refusal_of s ≡ 0) where
  checks : (ltb (length s) 6 ≡ false) × (codes_listed (call s) ≡ true) × (leb (map_end s) (length s) ≡ true) × (leb (length s) 8192 ≡ true)
  unfolding refusal_of
  checks = by_checks (ltb (length s) 6) (codes_listed (call s)) (wrap_permitted (call s)) (leb (map_end s) 8192) (leb (map_end s) (length s)) (leb (length s) 8192) z

  pub six : 6 ≤ length s
  six = ltb-false (length s) 6 checks.0

  pub taken_head : HeadIn s
  taken_head = head_in s six checks.1

  pub there : map_end s ≤ length s
  there = leb-true (map_end s) (length s) checks.2

  pub most : length s ≤ 8192
  most = leb-true (length s) 8192 checks.3

-- ---- what a refusal tells
module _ (s : List ℕ) (number : ℕ) (is : number ≡ refusal_of s) where
  few : (a b w c d e : Bool) → numbered a b w c d e < 10
  few true b w c d e = omega arith
  few false false w c d e = omega arith
  few false true false c d e = omega arith
  few false true true false d e = omega arith
  few false true true true false e = omega arith
  few false true true true true false = omega arith
  few false true true true true true = omega arith

  pub refusal_small : number < 10
  unfolding refusal_of
  refusal_small = subst (λ (z : ℕ). z < 10) (sym is) (few (ltb (length s) 6) (codes_listed (call s)) (wrap_permitted (call s)) (leb (map_end s) 8192) (leb (map_end s) (length s)) (leb (length s) 8192))

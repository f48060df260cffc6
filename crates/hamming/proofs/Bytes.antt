-- The bytes at a place against those of a number: from the lowest up, what is found and what is left make the whole distance; put there, they add it.
use mathlib.Core.Path.{◌≡◌, refl, sym, ap, ap₂, subst, ◌∙◌}
use mathlib.Core.Bool.{Bool, true, false, cond}
use mathlib.Core.List.{List, ◌∷◌, ◌++◌}
use Prim.Native.Nat.{ℕ, suc, ◌+◌, ◌-◌, ◌/◌, ◌%◌, ◌≤◌, ◌<◌}
use native.Mathlib.Nat.{add-zero, le_of_eq, le_trans, sub-zero, zero-add}
use native.Mathlib.Omega.{arith}
use lib.Dec.{eqb}
use lib.ListN.{length, get_or, take, drop, length-drop, take-append-drop}
use lib.Seq.{drop-cons, drop-drop, length-take-le}
use Rattle.bytes_le.specs.Bytes.{to_le, put}
use Rattle.bytes_le.proofs.Places.{behind_put}
use Rattle.bytes_le.proofs.Sums.{length-to_le}
use Rattle.hamming.specs.Distance.{distance}
use Rattle.hamming.proofs.Distances.{same_0, over_parts, at_most_length}

-- of the w bytes at a place a of s against those of v: k are looked at, of which x differ, and u is what is left of v
pub record Left (s : List ℕ) (a w v k u x : ℕ) : Type 0 where
  pub order : k ≤ w
  pub few : x ≤ k
  pub sum : x + distance (take (w - k) (drop (a + k) s)) (to_le (w - k) u) ≡ distance (take w (drop a s)) (to_le w v)

module _ (s : List ℕ) (a w v : ℕ) where
  pub none_yet : Left s a w v 0 v 0
  none_yet = record {
    order = omega arith;
    few = omega arith;
    sum = zero-add _ ∙ ap₂ (λ (n p : ℕ). distance (take n (drop p s)) (to_le n v)) (sub-zero w) (add-zero a);
  }

  module _ (k u x : ℕ) (left : Left s a w v k u x) where
    pub all : w ≤ k → x ≡ distance (take w (drop a s)) (to_le w v)
    all h =
        let z : w - k ≡ 0 = omega arith in
        sym (add-zero x) ∙ ap (λ (n : ℕ). x + distance (take n (drop (a + k) s)) (to_le n u)) (sym z) ∙ left.sum

    -- b tells whether the bytes at k are the same
    pub one_more : k < w → a + w ≤ length s → (b : Bool) → eqb (get_or s (a + k) 0) (u % 256) ≡ b → Left s a w v (k + 1) (u / 256) (cond b x (x + 1))
    one_more h room b e = record { order = omega arith; few = few_more b; sum = ap (λ (p : ℕ). cond b x (x + 1) + distance (take (w - (k + 1)) (drop p s)) (to_le (w - (k + 1)) (u / 256))) (next a k) ∙ shift b ∙ at_k }
      where
        next : (a k : ℕ) → a + (k + 1) ≡ suc (a + k)
        next a k = omega arith

        -- the distance behind the byte at k
        behind : ℕ
        behind = distance (take (w - (k + 1)) (drop (suc (a + k)) s)) (to_le (w - (k + 1)) (u / 256))

        at_k : x + cond b behind (suc behind) ≡ distance (take w (drop a s)) (to_le w v)
        at_k =
            let more : w - k ≡ suc (w - (k + 1)) = omega arith in
            let here : drop (a + k) s ≡ get_or s (a + k) 0 ∷ drop (suc (a + k)) s = drop-cons s (a + k) 0 (omega arith) in
            ap (λ (c : Bool). x + cond c behind (suc behind)) (sym e)
            ∙ ap₂ (λ (n : ℕ) (l : List ℕ). x + distance (take n l) (to_le n u)) (sym more) (sym here) ∙ left.sum

        few_more : (b : Bool) → cond b x (x + 1) ≤ k + 1
        few_more true = omega (arith, left.few)
        few_more false = omega (arith, left.few)

        shift : (b : Bool) → cond b x (x + 1) + behind ≡ x + cond b behind (suc behind)
        shift true = refl
        shift false = omega arith

-- ---- the w bytes at a place a of s, and as many of v
module _ (s : List ℕ) (a w v : ℕ) (room : a + w ≤ length s) where
  part_long : length (take w (drop a s)) ≡ length (to_le w v)
  part_long = length-take-le w (drop a s) (subst (λ (n : ℕ). w ≤ n) (sym (length-drop a s)) (omega arith)) ∙ sym (length-to_le w v)

  pub at_most_width : distance (take w (drop a s)) (to_le w v) ≤ w
  at_most_width = le_trans (at_most_length (take w (drop a s)) (to_le w v) part_long) (le_of_eq (part_long ∙ length-to_le w v))

-- ---- bytes that are put at a place a of a copy c of d, where c is d from a on
module _ (d c : List ℕ) (a w v : ℕ) (same : length c ≡ length d) (room : a + w ≤ length d) (rest : drop a c ≡ drop a d) where
  one_behind : drop (a + w) c ≡ drop (a + w) d
  one_behind = sym (drop-drop w a c) ∙ ap (drop w) rest ∙ drop-drop w a d

  -- d and c are still one behind them
  pub still_behind : drop (a + w) (put c a w v) ≡ drop (a + w) d
  still_behind = behind_put c a w v (omega arith) ∙ one_behind

  -- they add their own distance from what stands there
  pub put_adds : distance d c + distance (take w (drop a d)) (to_le w v) ≡ distance d (put c a w v)
  put_adds = ap (λ (n : ℕ). n + distance (take w (drop a d)) (to_le w v)) copied ∙ sym (split ∙ ap (λ (n : ℕ). front + n) (over_parts (take w (drop a d)) (to_le w v) (drop (a + w) d) (drop (a + w) c) (part_long d a w v room) ∙ ap (λ (n : ℕ). distance (take w (drop a d)) (to_le w v) + n) behind ∙ add-zero _))
    where
      front : ℕ
      front = distance (take a d) (take a c)

      fronts : length (take a d) ≡ length (take a c)
      fronts = length-take-le a d (omega arith) ∙ sym (length-take-le a c (omega arith))

      copied : distance d c ≡ front
      copied = ap₂ distance (sym (take-append-drop a d)) (sym (take-append-drop a c))
          ∙ over_parts (take a d) (take a c) (drop a d) (drop a c) fronts
          ∙ ap (λ (l : List ℕ). front + distance (drop a d) l) rest ∙ ap (λ (n : ℕ). front + n) (same_0 (drop a d)) ∙ add-zero front

      split : distance d (put c a w v) ≡ front + distance (take w (drop a d) ++ drop (a + w) d) (to_le w v ++ drop (a + w) c)
      split = ap (λ (l : List ℕ). distance l (put c a w v)) (sym (take-append-drop a d) ∙ ap (λ (l : List ℕ). take a d ++ l) (sym (take-append-drop w (drop a d)) ∙ ap (λ (l : List ℕ). take w (drop a d) ++ l) (drop-drop w a d)))
          ∙ over_parts (take a d) (take a c) (take w (drop a d) ++ drop (a + w) d) (to_le w v ++ drop (a + w) c) fronts

      behind : distance (drop (a + w) d) (drop (a + w) c) ≡ 0
      behind = ap (distance (drop (a + w) d)) one_behind ∙ same_0 (drop (a + w) d)

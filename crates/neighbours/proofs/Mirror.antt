-- `next_down` gives the next number down: the order of the values turned about by the sign.
use mathlib.Core.Path.{◌≡◌, refl, sym, ap, ap₂, subst, ◌∙◌}
use mathlib.Core.Bool.{Bool, true, false, not, cond}
use Prim.Native.Nat.{ℕ, ◌+◌, ◌-◌, ◌*◌, ◌/◌, ◌%◌, ◌^◌, ◌≤◌, ◌<◌}
use native.Mathlib.Nat.{mod-lt, div-add-mod', div-eq_of_lt, div-eq_of_lt-le}
use native.Mathlib.Omega.{arith}
use lib.Bits.{bit_xor, xor_block, xor_self, xor_zero_l, xor_zero_r}
use lib.Dec.{ltb, eqb}
use lib.IntN.{pos, neg_ℤ, neg_ℤ-neg_ℤ}
use lib.Pow.{pow_pos}
use borrow.Author.Tests.{le-leb, lt-leb}
use Rattle.grid.specs.Round.{signed}
use Rattle.grid.proofs.Int.{ints, up_neg, dn_neg}
use Rattle.grid.proofs.Neighbours.{cut, pow_twice_pred}
use Rattle.patterns.specs.Float.{bits_mag, inf_bits}
use Rattle.patterns.specs.Kind.{Kind, binary}
use Rattle.patterns.specs.Value.{Value, nan, inf, num, negative, float_value, value_of}
use Rattle.patterns.specs.Pattern.{with_sign}
use Rattle.patterns.proofs.Floats as floats
use Rattle.neighbours.specs.Next.{Below, LeastAbove, GreatestBelow, UpFrom, DownFrom, NextDown, next_up, next_down, opposite}
use Rattle.neighbours.proofs.Successor.{next_up_is}

-- ---- the value of the other sign
abbrev minus : Value → Value
minus nan = nan
minus (inf i) = inf (not i)
minus (num x) = num (neg_ℤ x)

not_not : (i : Bool) → not (not i) ≡ i
not_not true = refl
not_not false = refl

below_minus : (v u : Value) → Below v u → Below (minus u) (minus v)
below_minus nan u h = absurd h
below_minus (inf true) nan h = h
below_minus (inf true) (inf true) h = h
below_minus (inf true) (inf false) h = tt
below_minus (inf true) (num y) h = tt
below_minus (inf false) u h = absurd h
below_minus (num x) nan h = h
below_minus (num x) (inf true) h = h
below_minus (num x) (inf false) h = tt
below_minus (num x) (num y) h = omega (ints, up_neg x, dn_neg x, up_neg y, dn_neg y)

signed_not : (i : Bool) (m : ℕ) → signed (not i) m ≡ neg_ℤ (signed i m)
signed_not false m = refl
signed_not true m = sym (neg_ℤ-neg_ℤ (pos m))

value_not : (p w s : ℕ) (i : Bool) (x : ℕ) → float_value p w s (not i) x ≡ minus (float_value p w s i x)
value_not p w s i x = go (ltb x (inf_bits p w)) (eqb x (inf_bits p w))
  where
    go : (c d : Bool) → cond c (num (signed (not i) (bits_mag p s x))) (cond d (inf (not i)) nan) ≡ minus (cond c (num (signed i (bits_mag p s x))) (cond d (inf i) nan))
    go true d = ap num (signed_not i (bits_mag p s x))
    go false true = refl
    go false false = refl

module _ (p w s : ℕ) (two : 2 ≤ p) (one : 0 < w) where
  abbrev k : Kind
  k = binary p w s

  below_sign : (b : ℕ) → b % 2 ^ (w + p - 1) < 2 ^ (w + p - 1)
  below_sign b = mod-lt b (pow_pos (w + p - 1))

  pub opposite_fits : (b : ℕ) → opposite p w b < 2 ^ (w + p)
  unfolding opposite
  opposite_fits b = floats.sign_lt p w s two one (not (negative k b)) (b % 2 ^ (w + p - 1)) (below_sign b)

  pub opposite_sign : (b : ℕ) → negative k (opposite p w b) ≡ not (negative k b)
  unfolding opposite
  opposite_sign b = floats.sign_is p w s two one (not (negative k b)) (b % 2 ^ (w + p - 1)) (below_sign b)

  pub opposite_value : (b : ℕ) → value_of k (opposite p w b) ≡ minus (value_of k b)
  unfolding opposite value_of
  opposite_value b = floats.read p w s two one (not (negative k b)) (b % 2 ^ (w + p - 1)) (below_sign b) ∙ value_not p w s (negative k b) (b % 2 ^ (w + p - 1))

  pub opposite_twice : (b : ℕ) → b < 2 ^ (w + p) → opposite p w (opposite p w b) ≡ b
  unfolding opposite
  opposite_twice b h =
      ap₂ (with_sign (w + p)) (ap not (opposite_sign b) ∙ not_not (negative k b)) (floats.below_is p w s two one (not (negative k b)) (b % 2 ^ (w + p - 1)) (below_sign b))
      ∙ floats.signed_again p w s two one b h

  -- ---- a least value above, turned about
  module _ (b r : ℕ) (fit : b < 2 ^ (w + p)) (up : LeastAbove k (opposite p w b) r) where
    mirror : GreatestBelow k b (opposite p w r)
    mirror = record {
      fits = opposite_fits r;
      below = rw (opposite_value r) (subst (Below (minus (value_of k r))) (sym (opposite_value (opposite p w b)) ∙ ap (value_of k) (opposite_twice b fit)) (below_minus (value_of k (opposite p w b)) (value_of k r) up.above));
      none_between = λ c h l m. up.none_between (opposite p w c) (opposite_fits c)
          (rw (opposite_value b, opposite_value c) (below_minus (value_of k c) (value_of k b) m))
          (rw (opposite_value c) (subst (Below (minus (value_of k c))) (sym (opposite_value (opposite p w r)) ∙ ap (value_of k) (opposite_twice r up.fits)) (below_minus (value_of k (opposite p w r)) (value_of k c) l)));
      sign = λ e. opposite_sign r
          ∙ ap not (up.sign (sym (ap (value_of k) (opposite_twice r up.fits)) ∙ opposite_value (opposite p w r) ∙ ap minus e) ∙ opposite_sign b)
          ∙ not_not (negative k b);
    }

  pub next_down_is : (b : ℕ) → b < 2 ^ (w + p) → NextDown k b (next_down p w b)
  unfolding next_down
  next_down_is b fit = go (value_of k b) (subst (λ (v : Value). UpFrom v k (opposite p w b) (next_up p w (opposite p w b))) (opposite_value b) (next_up_is p w s (opposite p w b) two one (opposite_fits b)))
    where
      go : (v : Value) → UpFrom (minus v) k (opposite p w b) (next_up p w (opposite p w b)) → DownFrom v k b (opposite p w (next_up p w (opposite p w b)))
      go nan e = ap (opposite p w) e ∙ opposite_twice b fit
      go (inf true) e = ap (opposite p w) e ∙ opposite_twice b fit
      go (inf false) u = mirror b (next_up p w (opposite p w b)) fit u
      go (num x) u = mirror b (next_up p w (opposite p w b)) fit u

-- ---- the sign's bit turned over
pub flip_sign : (p w b : ℕ) → 0 < w + p → b < 2 * 2 ^ (w + p - 1) → bit_xor b (2 ^ (w + p - 1)) ≡ opposite p w b
unfolding opposite
flip_sign p w b some h =
    ap₂ bit_xor (sym (div-add-mod' b H)) whole ∙ xor_block (w + p - 1) (b / H) 1 (b % H) 0 (mod-lt b (pow_pos (w + p - 1))) (pow_pos (w + p - 1))
    ∙ ap (λ (z : ℕ). bit_xor (b / H) 1 * H + z) (xor_zero_r (b % H))
    ∙ cut b H
    (λ (l : b < H). ap (λ (z : ℕ). bit_xor z 1 * H + b % H) (div-eq_of_lt l) ∙ ap (λ (z : ℕ). z * H + b % H) (xor_zero_l 1) ∙ up ∙ ap (λ (c : Bool). with_sign (w + p) (not c) (b % H)) (sym (lt-leb H b l)))
    (λ (l : H ≤ b). ap (λ (z : ℕ). bit_xor z 1 * H + b % H) (div-eq_of_lt-le {k = 1} H (omega arith) (omega arith)) ∙ ap (λ (z : ℕ). z * H + b % H) (xor_self 1) ∙ down ∙ ap (λ (c : Bool). with_sign (w + p) (not c) (b % H)) (sym (le-leb H b l)))
  where
    H : ℕ
    H = 2 ^ (w + p - 1)

    whole : H ≡ 1 * H + 0
    whole = omega arith

    up : 1 * H + b % H ≡ H + b % H
    up = omega arith

    down : 0 * H + b % H ≡ b % H
    down = omega arith

-- so the next number down is the next up between two turns of the sign's bit
pub turned : (p w b r : ℕ) → 0 < w + p → b < 2 ^ (w + p) → r < 2 ^ (w + p) → r ≡ next_up p w (bit_xor b (2 ^ (w + p - 1))) → bit_xor r (2 ^ (w + p - 1)) ≡ next_down p w b
unfolding next_down
turned p w b r some h l e =
    flip_sign p w r some (omega (arith, pow_twice_pred (w + p) some))
    ∙ ap (opposite p w) (e ∙ ap (next_up p w) (flip_sign p w b some (omega (arith, pow_twice_pred (w + p) some))))

-- The sum of two whole numbers that a format represents, where it represents the sum: nothing is rounded. Once for both formats.
use Rattle.std.proofs.Common.{◌≡◌, ℕ, suc, ◌+◌, ◌*◌, ◌^◌, ◌<◌, ◌≤◌, Bool, true, false, ◌⊎◌, pos, sym, refl, ap, ◌∙◌, subst, inl, inr, true≢false, lt_of_lt_of_le, zero-lt-suc, mul_assoc, mul_comm, add-mul, eq-or-lt_of_le, mul-pos, one-mul, mul-one, arith, lit<, pow_mono, pow-add, shl_lt}
use lib.Ieee.{Float, nan, inf, fin, Format, binary32, binary64, prec, emax, low, up, down, round, add, sum, of_int}
use lib.Ieee.Fits.{down_pos}
use lib.Ieee.Exact.{HasValue, round_exact}
use lib.Ieee.Scale.{round_same}

of_int_is : (f : Format) (n : ℕ) → of_int f (pos n) ≡ round f false n 1
unfolding of_int
of_int_is f n = refl

-- q * 2 ^ k with q below 2 ^ prec is a value of the format
below_precision : (f : Format) (s : Bool) (q k : ℕ) → prec f + k ≤ suc (emax f) → q < 2 ^ prec f → HasValue (round f s (q * 2 ^ k) 1) s (q * 2 ^ k) 1
below_precision f s q k E h =
    round_exact f s (q * 2 ^ k) 1 q (k + low f) (zero-lt-suc 0) h
    (lt_of_lt_of_le (shl_lt (prec f) (k + low f) h) (pow_mono (room (prec f) k (low f) (suc (emax f)) E)))
    (mul_assoc q (2 ^ k) (2 ^ low f) ∙ ap (λ (z : ℕ). q * z) (sym (pow-add 2 k (low f))) ∙ sym (mul-one (q * 2 ^ (k + low f))))
  where
    room : (p k l t : ℕ) → p + k ≤ t → p + (k + l) ≤ l + t
    room p k l t h = omega arith

-- and so is 2 ^ prec * 2 ^ k
up_to_precision : (f : Format) (s : Bool) (q k : ℕ) → prec f + (prec f + k) ≤ suc (emax f) → q ≤ 2 ^ prec f → HasValue (round f s (q * 2 ^ k) 1) s (q * 2 ^ k) 1
up_to_precision f s q k E h = go (eq-or-lt_of_le h)
  where
    one_lt : (f : Format) → 1 < 2 ^ prec f
    one_lt binary32 = lit< tt
    one_lt binary64 = lit< tt

    go : (q ≡ 2 ^ prec f) ⊎ (q < 2 ^ prec f) → HasValue (round f s (q * 2 ^ k) 1) s (q * 2 ^ k) 1
    go (inr l) = below_precision f s q k (omega arith) l
    go (inl e) =
        let n : q * 2 ^ k ≡ 1 * 2 ^ (prec f + k) = ap (λ (z : ℕ). z * 2 ^ k) e ∙ sym (pow-add 2 (prec f) k) ∙ sym (one-mul (2 ^ (prec f + k))) in
        subst (λ (z : ℕ). HasValue (round f s z 1) s z 1) (sym n) (below_precision f s 1 (prec f + k) E (one_lt f))

-- the float of a whole number q * 2 ^ k
pub of_int_exact : (f : Format) (q k : ℕ) → prec f + (prec f + k) ≤ suc (emax f) → q ≤ 2 ^ prec f → HasValue (of_int f (pos (q * 2 ^ k))) false (q * 2 ^ k) 1
of_int_exact f q k E h = subst (λ (z : Float). HasValue z false (q * 2 ^ k) 1) (sym (of_int_is f (q * 2 ^ k))) (up_to_precision f false q k E h)

whole_sum : (m g n e a b : ℕ) → m * 1 ≡ a * e → n * 1 ≡ b * g → (m * g + n * e) * 1 ≡ (a + b) * (e * g)
whole_sum m g n e a b p q =
    mul-one (m * g + n * e)
    ∙ ap (λ (z : ℕ). z * g + n * e) (sym (mul-one m) ∙ p)
    ∙ ap (λ (z : ℕ). a * e * g + z * e) (sym (mul-one n) ∙ q)
    ∙ ap (λ (z : ℕ). z + b * g * e) (mul_assoc a e g)
    ∙ ap (λ (z : ℕ). a * (e * g) + z) (mul_assoc b g e ∙ ap (λ (z : ℕ). b * z) (mul_comm g e))
    ∙ sym (add-mul a b (e * g))

-- a sum of whole numbers is rounded once, from the whole numbers' sum
add_whole : (f : Format) (x y : Float) (a b : ℕ) → HasValue x false a 1 → HasValue y false b 1 → add f x y ≡ round f false (a + b) 1
unfolding add sum
add_whole f nan y a b h k = absurd h
add_whole f (inf s) y a b h k = absurd h
add_whole f (fin s m e) nan a b h k = absurd k
add_whole f (fin s m e) (inf t) a b h k = absurd k
add_whole f (fin true m e) (fin t n d) a b h k = absurd (true≢false h.0)
add_whole f (fin false m e) (fin true n d) a b h k = absurd (true≢false k.0)
add_whole f (fin false m e) (fin false n d) a b h k =
    round_same f false (m * up e * down d + n * up d * down e) (down e * down d) (a + b) 1 (mul-pos (down_pos e) (down_pos d)) (zero-lt-suc 0)
    (whole_sum (m * up e) (down d) (n * up d) (down e) a b h.1 k.1)

-- q * 2 ^ k and p * 2 ^ k, added as floats, are (q + p) * 2 ^ k, and nothing is rounded
pub add_exact : (f : Format) (q p k : ℕ) → prec f + (prec f + k) ≤ suc (emax f) → q + p ≤ 2 ^ prec f
    → HasValue (add f (of_int f (pos (q * 2 ^ k))) (of_int f (pos (p * 2 ^ k)))) false ((q + p) * 2 ^ k) 1
add_exact f q p k E h = subst (λ (z : Float). HasValue z false ((q + p) * 2 ^ k) 1) (sym is) (up_to_precision f false (q + p) k E h)
  where
    is : add f (of_int f (pos (q * 2 ^ k))) (of_int f (pos (p * 2 ^ k))) ≡ round f false ((q + p) * 2 ^ k) 1
    is = add_whole f (of_int f (pos (q * 2 ^ k))) (of_int f (pos (p * 2 ^ k))) (q * 2 ^ k) (p * 2 ^ k) (of_int_exact f q k E (omega arith)) (of_int_exact f p k E (omega arith))
        ∙ ap (λ (z : ℕ). round f false z 1) (sym (add-mul q p (2 ^ k)))

-- The order of the values is the order of the signed bits, for any precision, exponent width and spacing.
use mathlib.Core.Path.{◌≡◌, sym, ap, subst, ◌∙◌}
use mathlib.Core.Bool.{Bool, true, false, not}
use Prim.Native.Nat.{ℕ, ◌+◌, ◌^◌, ◌≤◌, ◌<◌}
use native.Mathlib.Nat.{le_of_eq, zero-mul}
use native.Mathlib.Omega.{arith}
use lib.Dec.{T}
use lib.IntN.{ℤ, pos}
use lib.Signed.{◌≤ℤ◌, ◌<ℤ◌}
use Rattle.grid.specs.Round.{signed}
use Rattle.grid.proofs.Int.{ints, up_neg, dn_neg, split}
use Rattle.grid.proofs.Neighbours.{cut}
use Rattle.patterns.specs.Float.{bits_mag, inf_bits}
use Rattle.patterns.specs.Value.{Value, nan, inf, num, float_value}
use Rattle.patterns.proofs.Encode.{encode, bits_mono}
use Rattle.patterns.proofs.Floats.{inf_pos, is_num, is_inf, is_nan}
use Rattle.neighbours.specs.Next.{Below}

-- ---- a growing function of magnitudes that has 0 at 0 keeps the order of signed numbers
module _ (f : ℕ → ℕ) (none : f 0 ≡ 0) (grows : (x y : ℕ) → x < y → f x < f y) where
  keeps_le : (x y : ℕ) → x ≤ y → f x ≤ f y
  keeps_le x y h = cut x y (λ (l : x < y). omega (arith, grows x y l)) (λ (l : y ≤ x). le_of_eq (ap f (omega arith)))

  some : (x : ℕ) → 0 < x → 0 < f x
  some x h = omega (arith, none, grows 0 x h)

  signed_lt : (i j : Bool) (x y : ℕ) → signed i x <ℤ signed j y → signed i (f x) <ℤ signed j (f y)
  signed_lt false false x y h = omega (ints, grows x y (omega ints))
  signed_lt false true x y h = absurd (omega (ints, up_neg (pos y), dn_neg (pos y)))
  signed_lt true false x y h = cut 0 x
      (λ (l : 0 < x). omega (ints, up_neg (pos (f x)), dn_neg (pos (f x)), some x l))
      (λ (l : x ≤ 0). omega (ints, up_neg (pos (f x)), dn_neg (pos (f x)), some y (omega (ints, up_neg (pos x), dn_neg (pos x)))))
  signed_lt true true x y h = omega (ints, up_neg (pos (f x)), dn_neg (pos (f x)), up_neg (pos (f y)), dn_neg (pos (f y)), grows y x (omega (ints, up_neg (pos x), dn_neg (pos x), up_neg (pos y), dn_neg (pos y))))

  signed_le : (i j : Bool) (x y : ℕ) → signed i x ≤ℤ signed j y → signed i (f x) ≤ℤ signed j (f y)
  signed_le false false x y h = omega (ints, keeps_le x y (omega ints))
  signed_le false true x y h =
      let a : x ≡ 0 = omega (ints, up_neg (pos y), dn_neg (pos y)) in
      let b : y ≡ 0 = omega (ints, up_neg (pos y), dn_neg (pos y)) in
      omega (ints, up_neg (pos (f y)), dn_neg (pos (f y)), none, ap f a, ap f b)
  signed_le true false x y h = omega (ints, up_neg (pos (f x)), dn_neg (pos (f x)))
  signed_le true true x y h = omega (ints, up_neg (pos (f x)), dn_neg (pos (f x)), up_neg (pos (f y)), dn_neg (pos (f y)), keeps_le y x (omega (ints, up_neg (pos x), dn_neg (pos x), up_neg (pos y), dn_neg (pos y))))

  signed_back : (i j : Bool) (x y : ℕ) → signed i (f x) <ℤ signed j (f y) → signed i x <ℤ signed j y
  signed_back i j x y h = split (signed i x) (signed j y) (λ l. l) (λ (l : signed j y ≤ℤ signed i x). absurd (omega (ints, signed_le j i y x l)))

-- ---- the magnitudes of bits
module _ (p w s : ℕ) (two : 2 ≤ p) (one : 0 < w) where
  pub no_bits : bits_mag p s 0 ≡ 0
  no_bits = ap (bits_mag p s) (omega arith) ∙ encode p s 0 0 (omega arith) (omega arith) (λ (h : 0 < 0). absurd (omega arith)) ∙ zero-mul (2 ^ (0 + s))

  abbrev I : ℕ
  I = inf_bits p w

  abbrev value : Bool → ℕ → Value
  value i x = float_value p w s i x

  -- bits below those of an infinity, those, and bits above them
  three {ℓ} : {C : Type ℓ} (x : ℕ) → (x < I → C) → (x ≡ I → C) → (I < x → C) → C
  three x f g h = cut x I f (λ (l : I ≤ x). cut I x h (λ (m : x ≤ I). g (omega arith)))

  from_inf : (i j : Bool) → Below (inf i) (inf j) → signed i I <ℤ signed j I
  from_inf true true h = absurd h
  from_inf true false h = omega (ints, up_neg (pos I), dn_neg (pos I), inf_pos p w s two one)
  from_inf false j h = absurd h

  from_num : (i j : Bool) (x : ℕ) → x < I → T (not j) → signed i x <ℤ signed j I
  from_num false false x l h = omega ints
  from_num true false x l h = omega (ints, up_neg (pos x), dn_neg (pos x))
  from_num i true x l h = absurd h

  to_num : (i j : Bool) (y : ℕ) (m : ℤ) → y < I → Below (inf i) (num m) → signed i I <ℤ signed j y
  to_num true false y m l h = omega (ints, up_neg (pos I), dn_neg (pos I))
  to_num true true y m l h = omega (ints, up_neg (pos I), dn_neg (pos I), up_neg (pos y), dn_neg (pos y))
  to_num false j y m l h = absurd h

  no_nan : (v : Value) → Below v nan → ⊥
  no_nan nan h = h
  no_nan (inf true) h = h
  no_nan (inf false) h = h
  no_nan (num x) h = h

  -- two values stand as their signed bits do
  pub below_ranks : (i j : Bool) (x y : ℕ) → Below (float_value p w s i x) (float_value p w s j y) → signed i x <ℤ signed j y
  below_ranks i j x y h = three y
      (λ (m : y < I). let h' = rw (is_num p w s j y m) at h in three x
      (λ (l : x < I). signed_back (bits_mag p s) no_bits (bits_mono p s) i j x y (rw (is_num p w s i x l) at h'))
      (λ (l : x ≡ I). subst (λ (z : ℕ). signed i z <ℤ signed j y) (sym l) (to_num i j y _ m (rw (is_inf p w s i x l) at h')))
      (λ (l : I < x). absurd (rw (is_nan p w s i x l) at h')))
      (λ (m : y ≡ I). let h' = rw (is_inf p w s j y m) at h in subst (λ (z : ℕ). signed i x <ℤ signed j z) (sym m) (three x
      (λ (l : x < I). from_num i j x l (rw (is_num p w s i x l) at h'))
      (λ (l : x ≡ I). subst (λ (z : ℕ). signed i z <ℤ signed j I) (sym l) (from_inf i j (rw (is_inf p w s i x l) at h')))
      (λ (l : I < x). absurd (rw (is_nan p w s i x l) at h'))))
      (λ (m : I < y). absurd (no_nan (value i x) (rw (is_nan p w s j y m) at h)))

  inf_inf : (i j : Bool) → signed i I <ℤ signed j I → Below (inf i) (inf j)
  inf_inf true true h = absurd (omega ints)
  inf_inf true false h = tt
  inf_inf false true h = absurd (omega (ints, up_neg (pos I), dn_neg (pos I)))
  inf_inf false false h = absurd (omega ints)

  num_inf : (i j : Bool) (x : ℕ) → x < I → signed i x <ℤ signed j I → T (not j)
  num_inf i false x l h = tt
  num_inf false true x l h = absurd (omega (ints, up_neg (pos I), dn_neg (pos I)))
  num_inf true true x l h = absurd (omega (ints, up_neg (pos I), dn_neg (pos I), up_neg (pos x), dn_neg (pos x)))

  inf_num : (i j : Bool) (y : ℕ) (m : ℤ) → y < I → signed i I <ℤ signed j y → Below (inf i) (num m)
  inf_num true j y m l h = tt
  inf_num false false y m l h = absurd (omega ints)
  inf_num false true y m l h = absurd (omega (ints, up_neg (pos y), dn_neg (pos y)))

  pub ranks_below : (i j : Bool) (x y : ℕ) → x ≤ inf_bits p w → y ≤ inf_bits p w → signed i x <ℤ signed j y → Below (float_value p w s i x) (float_value p w s j y)
  ranks_below i j x y xs ys h = three y
      (λ (m : y < I). rw (is_num p w s j y m) (three x
      (λ (l : x < I). rw (is_num p w s i x l) (signed_lt (bits_mag p s) no_bits (bits_mono p s) i j x y h))
      (λ (l : x ≡ I). rw (is_inf p w s i x l) (inf_num i j y _ m (subst (λ (z : ℕ). signed i z <ℤ signed j y) l h)))
      (λ (l : I < x). absurd (omega arith))))
      (λ (m : y ≡ I). rw (is_inf p w s j y m) (three x
      (λ (l : x < I). rw (is_num p w s i x l) (num_inf i j x l (subst (λ (z : ℕ). signed i x <ℤ signed j z) m h)))
      (λ (l : x ≡ I). rw (is_inf p w s i x l) (inf_inf i j (subst (λ (z : ℕ). signed i z <ℤ signed j I) l (subst (λ (z : ℕ). signed i x <ℤ signed j z) m h))))
      (λ (l : I < x). absurd (omega arith))))
      (λ (m : I < y). absurd (omega arith))

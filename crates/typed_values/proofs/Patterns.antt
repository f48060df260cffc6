-- Floats as patterns: each has one below 2 to its format's bits, and what is read from that pattern has it again.
use mathlib.Core.Bool.{Bool, true, false, not, cond, true≢false}
use mathlib.Core.Path.{◌≡◌, refl, sym, ap, subst}
use Prim.Native.Nat.{◌*◌, ◌<◌}
use lib.Ieee.Bits.{of_bits-to_bits, to_bits-lt, to_bits-of_bits}
use lib.Dec.{T, lit<}
use lib.Ieee.{Float, Format, binary32, binary64, nan, inf, fin, fits, is_nan, top, of_bits, to_bits}
use Rattle.typed_values.specs.Bits.{float_bits}

-- the quiet NaN's pattern stands for each NaN
pub nan_bits : (f : Format) (x : Float) → true ≡ is_nan x → float_bits f nan ≡ float_bits f x
unfolding is_nan
nan_bits f nan e = refl
nan_bits f (inf s) e = absurd (true≢false e)
nan_bits f (fin s m k) e = absurd (true≢false e)

pub own_bits : (f : Format) (x : Float) → fits f x ≡ true → to_bits f x ≡ float_bits f x
own_bits f x e = sym (ap (λ (t : Bool). cond t (to_bits f x) 0) e)

top_pos : (f : Format) → 0 < 2 * top f
top_pos binary32 = lit< tt
top_pos binary64 = lit< tt

zero_no_nan : (f : Format) → T (not (is_nan (of_bits f 0)))
unfolding is_nan of_bits
zero_no_nan binary32 = tt
zero_no_nan binary64 = tt

module _ (f : Format) (x : Float) where
  pub bits_below : float_bits f x < 2 * top f
  bits_below = go (fits f x) refl
    where
      go : (t : Bool) → fits f x ≡ t → cond t (to_bits f x) 0 < 2 * top f
      go true e = to_bits-lt f x (subst T (sym e) tt)
      go false e = top_pos f

  pub bits_back : to_bits f (of_bits f (float_bits f x)) ≡ float_bits f x
  bits_back = go (fits f x) refl
    where
      go : (t : Bool) → fits f x ≡ t → to_bits f (of_bits f (cond t (to_bits f x) 0)) ≡ cond t (to_bits f x) 0
      go true e = ap (to_bits f) (of_bits-to_bits f x (subst T (sym e) tt))
      go false e = to_bits-of_bits f 0 (top_pos f) (zero_no_nan f)

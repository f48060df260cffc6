-- Which patterns are a NaN's: those above an infinity's, without the sign's bit.
use mathlib.Core.Bool.{Bool, true, false, not, true≢false}
use mathlib.Core.Path.{◌≡◌, refl, sym, subst, ◌∙◌}
use Prim.Native.Nat.{ℕ, ◌*◌, ◌%◌, ◌≤◌, ◌<◌}
use lib.Ieee.Bits.{nan_bits_is, nan_bits_above}
use lib.Dec.{T}
use lib.Ieee.{Float, Format, nan, inf, fin, is_nan, hid, ones, top, of_bits, nan_bits}
use borrow.Author.Tests.{lt-ltb, le-ltb}

nan_only : (x : Float) → is_nan x ≡ true → x ≡ nan
unfolding is_nan
nan_only nan e = refl
nan_only (inf s) e = absurd (true≢false (sym e))
nan_only (fin s m x) e = absurd (true≢false (sym e))

pub nan_pattern_lem : (f : Format) (n : ℕ) → ones f * hid f < n % top f → nan ≡ of_bits f n
nan_pattern_lem f n h = sym (nan_only (of_bits f n) (sym (nan_bits_is f n) ∙ nan_bits_above f n ∙ lt-ltb (ones f * hid f) (n % top f) h))

pub no_nan_pattern : (f : Format) (n : ℕ) → n % top f ≤ ones f * hid f → T (not (nan_bits f n))
no_nan_pattern f n h = let e : nan_bits f n ≡ false = nan_bits_above f n ∙ le-ltb (ones f * hid f) (n % top f) h in subst (λ (t : Bool). T (not t)) (sym e) tt

-- To be believed: "Next number up and down: the next above -2^-149 in f32 is -0." What it is, and then how the patterns give it.
use Rattle.std.specs.Prelude.{◌≡◌, true, false, not, cond, ℕ, ◌+◌, ◌-◌, ◌%◌, ◌^◌, ◌≤◌, ◌<◌, T, eqb, ltb, leb, pos, ◌<ℤ◌}
use Rattle.patterns.specs.Float.{inf_bits}
use Rattle.patterns.specs.Kind.{Kind, bits}
use Rattle.patterns.specs.Value.{Value, nan, inf, num, negative, value_of}
use Rattle.patterns.specs.Pattern.{with_sign}

-- "either zero is the number 0, and an infinity lies beyond all numbers on its side"; a NaN has no place in the order
abbrev pub Below : Value → Value → Type 0
Below nan w = ⊥
Below (inf true) nan = ⊥
Below (inf true) (inf b) = T (not b)
Below (inf true) (num y) = Unit {0}
Below (inf false) w = ⊥
Below (num x) nan = ⊥
Below (num x) (inf b) = T (not b)
Below (num x) (num y) = x <ℤ y

-- r has the least value of the kind above that of b: no pattern's value lies strictly between. A zero keeps the sign of b.
pub record LeastAbove (k : Kind) (b r : ℕ) : Type 0 where
  pub fits : r < 2 ^ bits k
  pub above : Below (value_of k b) (value_of k r)
  pub none_between : (c : ℕ) → c < 2 ^ bits k → Below (value_of k b) (value_of k c) → Below (value_of k c) (value_of k r) → ⊥
  pub sign : value_of k r ≡ num (pos 0) → negative k r ≡ negative k b

-- a NaN and the infinity above all numbers stay as they are
abbrev pub UpFrom : Value → Kind → ℕ → ℕ → Type 0
UpFrom nan k b r = r ≡ b
UpFrom (inf false) k b r = r ≡ b
UpFrom (inf true) k b r = LeastAbove k b r
UpFrom (num x) k b r = LeastAbove k b r

abbrev pub NextUp : Kind → ℕ → ℕ → Type 0
NextUp k b r = UpFrom (value_of k b) k b r

-- the same with the order turned about
pub record GreatestBelow (k : Kind) (b r : ℕ) : Type 0 where
  pub fits : r < 2 ^ bits k
  pub below : Below (value_of k r) (value_of k b)
  pub none_between : (c : ℕ) → c < 2 ^ bits k → Below (value_of k r) (value_of k c) → Below (value_of k c) (value_of k b) → ⊥
  pub sign : value_of k r ≡ num (pos 0) → negative k r ≡ negative k b

abbrev pub DownFrom : Value → Kind → ℕ → ℕ → Type 0
DownFrom nan k b r = r ≡ b
DownFrom (inf true) k b r = r ≡ b
DownFrom (inf false) k b r = GreatestBelow k b r
DownFrom (num x) k b r = GreatestBelow k b r

abbrev pub NextDown : Kind → ℕ → ℕ → Type 0
NextDown k b r = DownFrom (value_of k b) k b r

-- ---- on patterns: b with the bits x below its sign. A NaN's and +infinity's own, 1 from a zero, and else a step away from or to zero.
-- i is the infinity's pattern, and h the sign's bit alone.
abbrev pub up_by : ℕ → ℕ → ℕ → ℕ → ℕ
up_by i h b x = cond (ltb i x) b (cond (eqb b i) b (cond (eqb x 0) 1 (cond (leb h b) (b - 1) (b + 1))))

abbrev pub up_from : ℕ → ℕ → ℕ → ℕ → ℕ
up_from p w b x = up_by (inf_bits p w) (2 ^ (w + p - 1)) b x

-- a pattern of a format whose sign's bit is h
pub record SignBit (b h : ℕ) : Type 0 where
  pub positive : 0 < h
  pub within_64_bits : h ≤ 2 ^ 63
  pub fits : b < h + h

unfoldable pub next_up : ℕ → ℕ → ℕ → ℕ
next_up p w b = up_from p w b (b % 2 ^ (w + p - 1))

-- the pattern of the number of the other sign
unfoldable pub opposite : ℕ → ℕ → ℕ → ℕ
opposite p w b = with_sign (w + p) (not (leb (2 ^ (w + p - 1)) b)) (b % 2 ^ (w + p - 1))

-- IEEE 754: "nextDown(x) is -nextUp(-x)"
unfoldable pub next_down : ℕ → ℕ → ℕ → ℕ
next_down p w b = opposite p w (next_up p w (opposite p w b))

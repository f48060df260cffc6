-- Internal: a float element as a program has it, by sign and class, for any precision, exponent width and spacing.
use Rattle.std.specs.Prelude.{Bool, cond, ℕ, ◌+◌, ◌%◌, ◌^◌, ◌<◌, eqb, nat_abs}
use Rattle.patterns.specs.Float.{inf_bits}
use Rattle.patterns.specs.Kind.{Kind}
use Rattle.patterns.specs.Value.{Value, nan, inf, num, negative, value_of}
use Rattle.patterns.specs.Pattern.{with_sign, nan_pattern}
use Rattle.scaled.specs.Scaled.{Canonical, finite_bits, scaled_of}
use Rattle.floats.specs.declared.Class.{Class}
use Rattle.floats.specs.declared.Class.TheVariants.{Finite, Infinite, NotANumber}
use Rattle.floats.specs.declared.Float.{Float}

abbrev pub finite_float : Bool → ℕ → ℕ → Float
finite_float neg m e = record { negative = neg; class = Finite (record { significand = m; exponent = e }) }

-- an exponent field of ones over the fraction t, where a NaN's fraction in f64 is u
abbrev pub infinite_or_nan : Bool → ℕ → ℕ → Float
infinite_or_nan neg t u = record { negative = neg; class = cond (eqb t 0) Infinite (NotANumber u) }

-- the class of the pattern b of a kind, by its value; a NaN's fraction is that of the f64 which stands for it
abbrev pub class_for : Kind → ℕ → Value → Class
class_for k b (num x) = Finite (scaled_of (nat_abs x))
class_for k b (inf neg) = Infinite
class_for k b nan = NotANumber (nan_pattern k 53 11 b % 2 ^ 52)

abbrev pub float_of : Kind → ℕ → Float
float_of k b = record { negative = negative k b; class = class_for k b (value_of k b) }

abbrev pub CanonicalClass : Class → Type 0
CanonicalClass (Finite x) = Canonical x
CanonicalClass Infinite = Unit {0}
CanonicalClass (NotANumber t) = (0 < t) × (t < 2 ^ 52)

abbrev pub class_bits : Class → ℕ
class_bits (Finite x) = finite_bits x
class_bits Infinite = inf_bits 53 11
class_bits (NotANumber t) = inf_bits 53 11 + t

-- the f64 with that sign and class
abbrev pub f64_of : Float → ℕ
f64_of x = with_sign 64 x.negative (class_bits x.class)

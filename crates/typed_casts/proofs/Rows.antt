-- What a listed code's row says: the format is one of the table, and is of the kind of the code; and a kind's pattern is one of its format.
use mathlib.Core.Path.{◌≡◌, sym, ap, subst, ◌∙◌}
use Prim.Native.Nat.{ℕ, ◌^◌, ◌<◌}
use Rattle.patterns.specs.Kind.{Kind, bits}
use Rattle.kinds.specs.Row.{row_of, format_of, kind_in, FormatRow}
use Rattle.kinds.specs.Table.{kind_of}
use Rattle.kinds.specs.declared.Format.{Format}
use Rattle.kinds.specs.declared.Format.TheVariants.{Integer, Float}
use Rattle.kinds.specs.declared.KindRow.{KindRow}
use Rattle.kinds.proofs.Listed.{format_row, kind_back}
use Rattle.element.specs.Element.{FormatPattern}

-- the row r of the code that the program has as c
module _ (code c : ℕ) (is : c ≡ code) (r : KindRow) (e : r ≡ row_of (kind_of c)) where
  format_is : r.format ≡ format_of (kind_of code)
  format_is = ap (λ (z : KindRow). z.format) e ∙ ap (λ (n : ℕ). format_of (kind_of n)) is

  module _ (listed : code < 11) where
    pub listed_row : FormatRow r.format
    listed_row = subst FormatRow (sym format_is) (format_row code listed)

    pub of_kind : kind_in r.format ≡ kind_of code
    of_kind = ap kind_in format_is ∙ kind_back code listed

    pub pattern_of_row : (b : ℕ) → b < 2 ^ bits (kind_of code) → FormatPattern b r.format
    pattern_of_row b h = go r.format listed_row (subst (λ (k : Kind). b < 2 ^ bits k) (sym of_kind) h)
      where
        go : (f : Format) → FormatRow f → b < 2 ^ bits (kind_in f) → FormatPattern b f
        go (Integer f) row h = record { positive = row.positive; at_most_64 = row.at_most_64; fits = h }
        go (Float f) row h = record { row = row; fits = h }

-- Where the parts of an input start: the widths of listed kinds are 1 to 8, and no place overruns.
use mathlib.Core.Path.{◌≡◌, refl, sym, ap, ap₂, subst, ◌∙◌}
use mathlib.Core.Logic.{inl, inr}
use mathlib.Core.List.{List}
use Prim.Native.Nat.{ℕ, ◌+◌, ◌*◌, ◌^◌, ◌≤◌, ◌<◌}
use native.Mathlib.Nat.{mul-le-mul}
use native.Mathlib.Omega.{arith}
use lib.ListN.{get_or}
use Rattle.bytes_le.specs.Bytes.{Place, Width}
use Rattle.bytes_le.proofs.Widths.{width_most}
use Rattle.patterns.specs.Kind.{width}
use Rattle.kinds.specs.Table.{kind_of}
use Rattle.kinds.specs.Row.{row_of}
use Rattle.kinds.specs.declared.KindRow.{KindRow}
use Rattle.kinds.proofs.Listed.{row_width}
use Rattle.cast_spec.proofs.Widths.{listed_width, width_pos}
use Rattle.listing_input.specs.declared.Layout.{Layout}
use Rattle.listing_input.specs.Input.{entries}
use Rattle.listing_input.specs.Layouts.{HeadIn, layout_of}

-- ---- the widths of listed kinds
module _ (code : ℕ) (listed : code < 11) (row : KindRow) (is : row ≡ row_of (kind_of code)) where
  pub row_listed : Width row.bytes
  row_listed = subst Width (sym (row_width (kind_of code) row is)) (listed_width code listed)

  pub row_most : row.bytes ≤ 8
  row_most = width_most row_listed

  pub row_some : 0 < row.bytes
  row_some = subst (λ (z : ℕ). 0 < z) (sym (row_width (kind_of code) row is)) (width_pos code listed)

-- ---- where the parts start
module _ (s : List ℕ) (head : HeadIn s) where
  pub count_place : Place s 4 2
  count_place = record { width = inr (inl refl); within = head.six }

  module _ (x y : KindRow) (e : ℕ) (ex : x ≡ row_of (kind_of (get_or s 0 0))) (ey : y ≡ row_of (kind_of (get_or s 1 0))) (ee : e ≡ entries s) (small : e < 256 ^ 2) where
    fits : e ≤ 65536
    fits = omega arith

    pub keys_small : e * x.bytes ≤ 65536 * 8
    keys_small = mul-le-mul fits (row_most (get_or s 0 0) head.from x ex)

    pub targets_small : e * y.bytes ≤ 65536 * 8
    targets_small = mul-le-mul fits (row_most (get_or s 1 0) head.to y ey)

    pub laid_out : record { targets = 6 + e * x.bytes; elements = 6 + e * x.bytes + e * y.bytes } ≡ layout_of s
    laid_out =
        ap₂ {C = Layout} (λ (a b : ℕ). record { targets = 6 + e * a; elements = 6 + e * a + e * b }) (row_width (kind_of (get_or s 0 0)) x ex) (row_width (kind_of (get_or s 1 0)) y ey)
        ∙ ap {B = Layout} (λ (n : ℕ). record { targets = 6 + n * width (kind_of (get_or s 0 0)); elements = 6 + n * width (kind_of (get_or s 0 0)) + n * width (kind_of (get_or s 1 0)) }) ee

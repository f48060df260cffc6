-- To be believed: where a pick lies: "whether its pick was exact, below or above the element", as numbers.
use Rattle.std.specs.Prelude.{Bool, cond, ℕ, ℤ}
use Rattle.std.specs.Int.Signed.{lt_z}
use Rattle.grid.specs.Grid.{Grid}
use Rattle.grid.specs.Round.{pick_mag, rule_for, signed}
use Rattle.grid.specs.declared.RoundingMode.{RoundingMode}
use Rattle.grid.specs.declared.Ternary.{Ternary}
use Rattle.grid.specs.declared.Ternary.TheVariants.{Exact, Below, Above}

-- the pick y of an element x
unfoldable pub ternary_of : ℤ → ℤ → Ternary
ternary_of x y = cond (lt_z y x) Below (cond (lt_z x y) Above Exact)

-- the pick of the number of a sign and a magnitude n
abbrev pub ternary_for : Grid → Bool → RoundingMode → ℕ → Ternary
ternary_for g neg r n = ternary_of (signed neg n) (signed neg (pick_mag g (rule_for neg r) n))

-- Where a call's codes are listed, its kinds are.
use mathlib.Core.Path.{◌≡◌}
use mathlib.Core.Bool.{true, ◌&&◌}
use Prim.Native.Nat.{ℕ, ◌<◌}
use lib.Dec.{ltb}
use borrow.Author.Tests.{ltb-true}
use Rattle.grid.proofs.Tests.{parts}

pub listed_kinds : (f t o g : ℕ) → ltb f 11 && ltb t 11 && ltb o 5 && ltb g 3 ≡ true → (f < 11) × (t < 11)
listed_kinds f t o g e =
    let p = parts (ltb f 11) (ltb t 11) (parts (ltb f 11 && ltb t 11) (ltb o 5) (parts (ltb f 11 && ltb t 11 && ltb o 5) (ltb g 3) e).0).0 in
    (ltb-true f 11 p.0, ltb-true t 11 p.1)

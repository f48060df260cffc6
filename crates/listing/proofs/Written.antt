-- A listing that was written lies within the buffer: what a caller asks that hands it on.
use mathlib.Core.Path.{◌≡◌, sym, ap, ◌∙◌}
use mathlib.Core.List.{List}
use Prim.Native.Nat.{ℕ, ◌≤◌}
use native.Mathlib.Omega.{arith}
use lib.ListN.{length, take, drop, length-append}
use lib.Seq.{length-take-le}
use Rattle.listing.specs.Listing.{listing_of, Listed}

module _ (s d : List ℕ) (r : ℕ) (d' : List ℕ) (l : Listed s d r d') where
  pub listing_within : r ≤ length d'
  listing_within = omega (arith, l.size, ap length l.bytes ∙ length-append (listing_of s) (drop r d))

  pub listing_taken : r ≡ length (take r d')
  listing_taken = sym (length-take-le r d' listing_within)

-- The ways out of the checks: a refusal that they lead to, or the settings and the count of a call that passes them all.
use mathlib.Core.Path.{◌≡◌, sym, ap}
use mathlib.Core.Bool.{true}
use Prim.Native.Nat.{◌/◌}
use lib.ListN.{length}
use borrow.Author.Tests.{eq-eqb}
use Rattle.cast_spec.specs.Chunk.{Inputs, sw, dw, codes_listed, wrap_permitted, map_whole, bytes_whole, call_of}
use Rattle.cast_spec.proofs.Refusals.{RefusedBy}
use Rattle.std.specs.Prelude.{Ok, Err}
use Rattle.answers.specs.declared.Refusal.{Refusal}
use Rattle.chunk_checks.specs.Checked.{settings_from, with_settings, checked_of}

module _ (I : Inputs) where
  pub refused : (r : Refusal) → RefusedBy I (Err r) → Err r ≡ checked_of I
  unfolding checked_of
  refused r by = ap (with_settings I) (sym by.1)

  pub passed : codes_listed I ≡ true → wrap_permitted I ≡ true → map_whole I ≡ true → bytes_whole I ≡ true → length I.source / sw I ≡ length I.destination / dw I
      → Ok (record { settings = settings_from I; count = length I.source / sw I }) ≡ checked_of I
  unfolding checked_of call_of
  passed a w b c n = let d = eq-eqb (length I.source / sw I) (length I.destination / dw I) n in simp (a, w, b, c, d)

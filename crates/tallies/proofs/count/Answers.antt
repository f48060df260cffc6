-- One more at the class's place is one element more of that class.
use Rattle.std.proofs.Common.{ℕ, sym, ap, subst, ◌∙◌}
use lib.ListN.{length, length-set}
use Rattle.tallies.specs.Tally.{counts_in, one_more_at, CountableAt}
use Rattle.tallies.proofs.Tallies.{one_more, countable_at}
use Rattle.tallies.proofs.count.Goals as goal

pub count_at-requires : goal.count_at-requires
count_at-requires c =
    let a = c.args in
    subst (λ (k : ℕ). CountableAt k a.tally.now) (sym c.place.ensures) (countable_at a.fared a.tally.now c.requires.six (c.requires.room a.fared))

pub returns : goal.returns
returns c =
    let a = c.args in
    let t = a.tally.now in
    record {
      six = ap length c.count_at.ensures ∙ length-set t c.place.result _ ∙ c.requires.six;
      counts = ap counts_in c.count_at.ensures ∙ ap (λ (k : ℕ). counts_in (one_more_at k t)) c.place.ensures ∙ one_more a.fared t c.requires.six;
    }

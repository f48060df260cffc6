-- A pick past the range is refused, and every other way is a law of the range step.
use Rattle.std.proofs.Common.{Bool, cond, ◌&&◌, ℕ, sym, ap, ◌∙◌}
use Rattle.grid.specs.Round.{signed}
use Rattle.patterns.specs.Pattern.{low_bits}
use Rattle.counts.specs.Counts.{by_pick}
use Rattle.counts.specs.declared.Fared.TheVariants.{Clamped, Wrapped}
use Rattle.integer_range.proofs.Range.{out, refused_past, stored_kept}
use Rattle.integer_range.proofs.apply_range.Goals as goal

pub returns-then-past-refuses : goal.returns-then-past-refuses
returns-then-past-refuses c =
    let a = c.args in
    let e = c.end_magnitude-end in
    let p = out a.to.signed a.to.bits c.requires.positive c.requires.at_most_64 a.negative a.magnitude a.exceeds a.ternary e.result e.ensures in
    refused_past a.to.signed a.to.bits c.requires.positive c.requires.at_most_64 a.negative a.magnitude a.exceeds a.ternary e.result e.ensures a.range (ap (λ (z : Bool). p && z) (sym c.refuses.ensures) ∙ c.if-past-refuses.true)

pub returns : goal.returns
returns c =
    let a = c.args in
    let e = c.end_magnitude-end in
    let k = c.clamps-clamp in
    let p = out a.to.signed a.to.bits c.requires.positive c.requires.at_most_64 a.negative a.magnitude a.exceeds a.ternary e.result e.ensures in
    stored_kept a.to.signed a.to.bits c.requires.positive c.requires.at_most_64 a.negative a.magnitude a.exceeds a.ternary e.result e.ensures a.range (ap (λ (z : Bool). p && z) (sym c.refuses.ensures) ∙ c.if-past-refuses.false) c.wrap_magnitude.result c.fared.result
    (c.wrap_magnitude.ensures ∙ ap (λ (z : ℕ). low_bits a.to.bits (signed a.negative z)) (c.choose-kept.ensures ∙ ap (λ (z : Bool). cond (p && z) e.result a.magnitude) k.ensures))
    (c.fared.ensures ∙ ap (λ (z : Bool). cond p (cond z Clamped Wrapped) (by_pick a.ternary)) k.ensures)

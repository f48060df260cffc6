-- The rounded bits meet the range, and the ternary is passed on.
use Rattle.std.proofs.Common.{ap, ◌∙◌}
use Rattle.grid.specs.declared.Rounded.{Rounded}
use Rattle.float_range.proofs.Fits.{number_fit}
use Rattle.narrowing.proofs.narrow.Goals as goal

pub returns : goal.returns
returns c =
    let m = c.narrow_magnitude-rounded in
    let a = c.args in
    c.fit_bits.ensures
    ∙ number_fit a.p a.w a.s c.requires.1.two c.requires.2.positive a.mode a.range a.negative _ m.result.bits (ap (λ (w : Rounded). w.bits) m.ensures) m.result.ternary (ap (λ (w : Rounded). w.ternary) m.ensures)

-- A wrapped difference has the residue's lowest bits.
use Rattle.std.proofs.Common.{ℕ, ◌-◌, ◌/◌, ◌^◌, bit_and, ap, ◌∙◌}
use Rattle.wrapping.proofs.Residues.{wrapped}
use Rattle.wrapping.proofs.wrap_magnitude.Goals as goal

pub returns : goal.returns
returns c =
    let a = c.args in
    let w = c.wrapping_sub_u64-residue in
    ap (λ (x : ℕ). bit_and x ((2 ^ 64 - 1) / 2 ^ (64 - a.bits))) c.choose.ensures ∙ wrapped a.bits c.requires.1 a.negative w.result a.magnitude w.ensures.value

-- The kept part and the unit are floats exactly, and so is their sum; the rest and the step tell where it lies.
use Rattle.std.proofs.Common.{◌≡◌, ◌+◌, ◌-◌, ◌≤◌, Float, false, sym, subst, arith}
use lib.Ieee.{size}
use lib.Ieee.Exact.{HasValue}
use Rattle.grid.specs.Grid.{float}
use Rattle.grid.specs.Round.{pick_mag, rule_for}
use Rattle.integer_rounding.proofs.Rounded.{few_bits, few_bits_exact, dropped, shift_lt, rest_lt, many_bits, rest_exact, up_larger}
use Rattle.integer_rounding.proofs.round_int_to_precision.Goals as goal

pub returns-then-significant-precision : goal.returns-then-significant-precision
returns-then-significant-precision c =
    let a = c.args in
    let r = rule_for a.negative a.mode in
    let few : size a.magnitude ≤ a.precision = omega (arith, c.significant_bits-significant.ensures, c.if-significant-precision.true) in (
      record {
        value = subst (λ (x : Float). HasValue x false (pick_mag (float a.precision 0) r a.magnitude) 1) (sym c.nearest_u64_to_f64.ensures) (few_bits a.precision a.magnitude c.requires r few);
      },
      few_bits_exact a.precision a.magnitude c.requires a.negative a.mode few,
    )

pub overflow_shr-q : goal.overflow_shr-q
overflow_shr-q c =
    let a = c.args in
    omega (arith, shift_lt a.precision a.magnitude c.requires _ (dropped a.precision c.significant_bits-significant.result a.magnitude c.significant_bits-significant.ensures c.if-significant-precision.false) (omega arith))

pub overflow_shl-kept : goal.overflow_shl-kept
overflow_shl-kept c = overflow_shr-q c

pub overflow_shl-shift : goal.overflow_shl-shift
overflow_shl-shift c = overflow_shr-q c

pub rounds_up-up-requires : goal.rounds_up-up-requires
rounds_up-up-requires c =
    let a = c.args in
    rest_lt a.precision a.magnitude c.requires _ (dropped a.precision c.significant_bits-significant.result a.magnitude c.significant_bits-significant.ensures c.if-significant-precision.false) (omega arith)

pub overflow_shl-more : goal.overflow_shl-more
overflow_shl-more c =
    let a = c.args in
    omega (arith, shift_lt a.precision a.magnitude c.requires _ (dropped a.precision c.significant_bits-significant.result a.magnitude c.significant_bits-significant.ensures c.if-significant-precision.false) (omega arith))

pub returns : goal.returns
returns c =
    let a = c.args in
    let r = rule_for a.negative a.mode in
    let up = c.rounds_up-up in
    let drops : a.precision + (c.significant_bits-significant.result - a.precision) ≡ size a.magnitude = dropped a.precision c.significant_bits-significant.result a.magnitude c.significant_bits-significant.ensures c.if-significant-precision.false in (
      record {
        value = many_bits a.precision a.magnitude c.requires _ drops (omega arith) r up.result _ _ up.ensures c.nearest_u64_to_f64-2.ensures c.nearest_u64_to_f64-3.ensures;
      },
      c.ternary_of.ensures a.magnitude (pick_mag (float a.precision 0) r a.magnitude)
          (rest_exact a.precision a.magnitude c.requires _ drops (omega arith) r)
          (up_larger a.precision a.magnitude c.requires _ drops (omega arith) r up.result up.ensures),
    )

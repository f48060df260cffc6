-- The entry at i is b or is not, whatever the sign.
use Rattle.std.proofs.Common.{◌*◌, eq-eqb, ne_eqb, arith}
use Rattle.bytes_le.proofs.Widths.{positive_width}
use Rattle.mapping.proofs.Entries.{key_fits, found, passed}
use Rattle.mapping.proofs.Integers.{integers_match}
use Rattle.mapping.proofs.apply_scalar_map_int.Goals as goal

pub returns-then-b-key : goal.returns-then-b-key
returns-then-b-key c signed =
    let tested = integers_match signed (8 * c.args.sw) c.args.b c.fetch-key.result (omega (arith, positive_width c.requires.key_width)) c.requires.fits (key_fits c.requires c.fetch-key.ensures.fits) in
    found (c.loop-i.invariant signed) c.loop-i-test.true c.fetch-key.ensures.pattern tested (eq-eqb _ _ c.if-b-key.true) c.fetch.ensures.pattern

pub loop-i-preserved : goal.loop-i-preserved
loop-i-preserved c signed =
    let tested = integers_match signed (8 * c.args.sw) c.args.b c.fetch-key.result (omega (arith, positive_width c.requires.key_width)) c.requires.fits (key_fits c.requires c.fetch-key.ensures.fits) in
    passed (c.loop-i.invariant signed) c.loop-i-test.true c.fetch-key.ensures.pattern tested (ne_eqb _ _ c.if-b-key.false)

-- Internal: the laws of a pair whose source is a type around an f64.
use lib.Dec.{lit<}
use Rattle.typed_values.specs.Bits.{f64_bits, u8_bits}
use Rattle.typed_values.proofs.Fits.{f64_fits, u8_fits}
use Rattle.typed_patterns.specs.Values.{u8_of}
use Rattle.typed_patterns.specs.Pairs.{PairLaws}
use Rattle.typed_patterns.proofs.Pairs.{u8_kept}
use Rattle.typed_elements.specs.declared.Level.{Level}

pub level_to_u8 : PairLaws 9 4 (λ (x : Level). f64_bits x.0) u8_bits u8_of
level_to_u8 = record {
  from_listed = lit< tt;
  to_listed = lit< tt;
  source_fits = λ x. f64_fits x.0;
  target_fits = u8_fits;
  keeps = λ s from to entries e x b f h. u8_kept b;
}

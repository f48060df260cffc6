pub mod WholeFloats

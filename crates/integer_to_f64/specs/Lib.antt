pub mod RoundedBits

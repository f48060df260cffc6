pub mod FloatToInt
pub mod ToF64

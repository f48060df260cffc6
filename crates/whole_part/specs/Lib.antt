pub mod WholePart

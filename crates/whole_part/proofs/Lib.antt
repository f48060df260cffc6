pub mod WholeParts

pub mod FloatKeys

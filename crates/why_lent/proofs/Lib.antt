pub mod AnyLength

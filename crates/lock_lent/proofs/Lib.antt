pub mod Fronts
pub mod AnyLength
pub mod PutBack
pub mod LentLaws

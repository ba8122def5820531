pub mod Count
pub mod Held

pub mod Exchange
pub mod Run
pub mod Drain
pub mod Taken
pub mod AnyLength
pub mod LentLaws

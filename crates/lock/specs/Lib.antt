pub mod ByValue
pub mod Entered
pub mod Room
pub mod Trace
pub mod Turn
pub mod Run
pub mod Setup
pub mod Drain

pub mod Loops
pub mod Puts

pub mod Tests
pub mod Loops
pub mod Slices

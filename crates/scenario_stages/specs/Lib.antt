pub mod Kept
pub mod Means
pub mod Runs

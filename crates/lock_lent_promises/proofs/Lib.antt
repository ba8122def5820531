pub mod Told
pub mod Reached
pub mod Cited
pub mod Promises
pub mod Runs

pub mod Cited
pub mod Promises

pub mod Given
pub mod Cited
pub mod Promises

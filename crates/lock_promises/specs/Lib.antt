pub mod Outcome
pub mod Given
pub mod Cited
pub mod Reached
pub mod Runs
pub mod Promises
pub mod Accesses
pub mod Answers

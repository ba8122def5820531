pub mod Session
pub mod Whole
pub mod Chunks
pub mod Piped
pub mod Caller
pub mod Cited

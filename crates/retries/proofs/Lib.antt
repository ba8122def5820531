pub mod Rows
pub mod Cases
pub mod Threads
pub mod Retries
pub mod Counts

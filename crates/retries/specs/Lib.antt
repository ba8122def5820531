pub mod Rows
pub mod Retries
pub mod Counts
pub mod Cases

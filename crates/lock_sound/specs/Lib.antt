pub mod Counts
pub mod Records

pub mod Gather
pub mod Alone

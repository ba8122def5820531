pub mod Finds
pub mod Starts
pub mod Long
pub mod Chosen

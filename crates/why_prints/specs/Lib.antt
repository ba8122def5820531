pub mod Prints
pub mod Laws
pub mod Cases

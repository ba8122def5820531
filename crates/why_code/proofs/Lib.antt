mod First
pub mod Calls
pub mod Laws

pub mod ByValue
pub mod Laws

pub mod U64
pub mod Laws

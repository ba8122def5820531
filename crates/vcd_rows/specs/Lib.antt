pub mod Waves
pub mod Laws

pub mod PutRows
pub mod Fits
pub mod Laws

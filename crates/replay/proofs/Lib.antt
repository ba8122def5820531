pub mod Scans
pub mod Fields
pub mod Takes
pub mod Laws

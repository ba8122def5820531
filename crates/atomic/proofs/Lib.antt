pub mod Permission
pub mod Bits
pub mod Wrap
pub mod Fits
pub mod Published
pub mod Cases

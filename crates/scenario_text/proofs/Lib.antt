pub mod Digits
pub mod Stores
pub mod Texts
pub mod Values
pub mod ReadBack

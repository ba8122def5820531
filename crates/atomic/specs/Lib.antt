pub mod Bits
pub mod Operators
pub mod Permission
pub mod Access
pub mod Published
pub mod Cases

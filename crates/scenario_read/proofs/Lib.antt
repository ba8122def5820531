pub mod Places
pub mod Turns
pub mod Runs
pub mod RunLine
pub mod Digits
pub mod Stands
pub mod Onward
pub mod Worlds

pub mod Feed
pub mod Code
pub mod RunAt
pub mod Ahead

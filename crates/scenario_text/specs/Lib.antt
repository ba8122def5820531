pub mod Number
pub mod Lines
pub mod Put
pub mod ReadBack

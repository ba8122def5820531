pub mod Facts
pub mod Says

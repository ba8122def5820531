pub mod AsByValue
pub mod AtWidths

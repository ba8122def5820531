pub mod Bool
pub mod Laws

pub mod Count
pub mod U8
pub mod Laws

pub mod PutRows
pub mod Laws
pub mod Pages

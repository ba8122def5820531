pub mod ValueLaws
pub mod PredLaws
pub mod InvLaws
pub mod Published
pub mod Examples

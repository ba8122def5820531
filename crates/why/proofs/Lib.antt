pub mod Means
pub mod Blockers
pub mod Reasons
pub mod Tells
pub mod Answers
pub mod Where
pub mod WayOn
pub mod Cases

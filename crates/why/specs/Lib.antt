pub mod Why
pub mod Told
pub mod Reasons
pub mod WayOn
pub mod Cases

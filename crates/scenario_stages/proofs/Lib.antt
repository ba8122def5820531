pub mod Noted
pub mod Clears
pub mod Asks
pub mod Few
pub mod Alike
pub mod Grows
pub mod Means
pub mod Runs

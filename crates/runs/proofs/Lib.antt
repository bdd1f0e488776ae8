pub mod Bound
pub mod Retained
pub mod Acknowledged
pub mod Held

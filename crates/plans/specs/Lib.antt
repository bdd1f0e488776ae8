pub mod Plans
pub mod Limits

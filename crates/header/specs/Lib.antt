pub mod Header
pub mod Faults
pub mod Back
pub mod Default

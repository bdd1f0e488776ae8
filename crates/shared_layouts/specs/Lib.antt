pub mod Layouts
pub mod Back
pub mod Faults

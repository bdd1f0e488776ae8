pub mod Answers
pub mod Headers
pub mod Faults
pub mod Fields
pub mod Plans
pub mod Old
pub mod Month

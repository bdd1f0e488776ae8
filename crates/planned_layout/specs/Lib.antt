pub mod Layout
pub mod Back

pub mod Layout
pub mod Back
pub mod Steps

pub mod Arrays
pub mod Back
pub mod Puts
pub mod Made

pub mod Sheets
pub mod Turns
pub mod Steps
pub mod Sums
pub mod Laws
pub mod Possible

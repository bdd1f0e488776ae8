pub mod Entries
pub mod Steps
pub mod Laws
pub mod Reached
pub mod Edges

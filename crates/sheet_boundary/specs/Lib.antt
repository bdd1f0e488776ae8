pub mod Boundary
pub mod Steps
pub mod Laws

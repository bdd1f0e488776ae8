pub mod Reader
pub mod Laws
pub mod Blocks

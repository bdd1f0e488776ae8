pub mod Told
pub mod Collection
pub mod Laws
pub mod Steps
pub mod Copied

pub mod Chunks
pub mod Turns
pub mod Demand
pub mod Few

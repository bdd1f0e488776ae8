pub mod Phases
pub mod Asked
pub mod Chunks
pub mod Awaited

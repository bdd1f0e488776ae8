pub mod Trimming
pub mod Trimmed

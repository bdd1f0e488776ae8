pub mod Plan
pub mod Planned
pub mod Completions
pub mod Looked

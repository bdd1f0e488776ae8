pub mod Scene
pub mod Lazy
pub mod Computed
pub mod Many
pub mod Refuted

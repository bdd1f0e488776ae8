pub mod Serving
pub mod Runs

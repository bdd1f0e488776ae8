pub mod Answered
pub mod Bench
pub mod Shown
pub mod Events
pub mod Own
pub mod Instance
pub mod Demand3

pub mod Answers
pub mod Classes
pub mod Refused

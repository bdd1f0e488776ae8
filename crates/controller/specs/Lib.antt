pub mod Controller
pub mod Asked

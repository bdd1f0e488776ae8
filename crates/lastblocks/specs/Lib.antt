pub mod LastBlocks
pub mod Rule
pub mod Laws

pub mod Filled
pub mod Drafting

pub mod Accepted
pub mod Whole

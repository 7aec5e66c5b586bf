pub mod Split
pub mod Whole
pub mod Examples

pub mod Refusals
pub mod Released
pub mod Rows
pub mod Cuts

pub mod Cases
pub mod Replaced
pub mod News
pub mod Steps

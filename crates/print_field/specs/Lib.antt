pub mod Text
pub mod Fields
pub mod Puts
pub mod Added

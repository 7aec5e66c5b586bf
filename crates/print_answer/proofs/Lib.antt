pub mod Nth
pub mod Some
pub mod Examples

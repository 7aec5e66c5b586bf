pub mod Outcomes
pub mod Places
pub mod Leaving
pub mod Examples

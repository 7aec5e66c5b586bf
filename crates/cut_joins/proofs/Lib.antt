pub mod Pairs
pub mod Joining

pub mod Keys
pub mod Ahead

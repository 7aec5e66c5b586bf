pub mod Minus
pub mod Turns

pub mod Lines
pub mod Nets

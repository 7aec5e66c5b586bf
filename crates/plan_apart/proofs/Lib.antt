pub mod Orders
pub mod Spacing
pub mod Turns
pub mod Adds

pub mod Puts
pub mod Sides
pub mod Edited
pub mod Planned

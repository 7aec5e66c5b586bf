pub mod Examples
pub mod Planned
pub mod Starts
pub mod Shapes
pub mod Fair
pub mod Shown
pub mod Writes

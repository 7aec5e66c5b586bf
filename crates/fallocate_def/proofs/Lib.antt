pub mod Examples
pub mod Less
pub mod Holes
pub mod Planned
pub mod Fair
pub mod Shown
pub mod Outcomes

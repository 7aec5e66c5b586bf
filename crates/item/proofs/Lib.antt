pub mod Runs
pub mod Laws
pub mod Widths
pub mod Samples
pub mod Reading

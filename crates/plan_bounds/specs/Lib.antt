pub mod Widths
pub mod Ample

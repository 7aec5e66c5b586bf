pub mod Clear
pub mod Kept
pub mod Extents

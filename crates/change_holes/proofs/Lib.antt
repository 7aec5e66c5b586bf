pub mod Gaps
pub mod Pieces
pub mod Walking

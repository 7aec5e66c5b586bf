pub mod Merge
pub mod Checks
pub mod Walks

pub mod Chains
pub mod Counts
pub mod Links
pub mod Reading

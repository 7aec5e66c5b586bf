pub mod Gaps
pub mod Walk

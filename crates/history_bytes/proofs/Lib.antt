pub mod Bytes
pub mod Files
pub mod Plans
pub mod Steps
pub mod Runs
pub mod Calls

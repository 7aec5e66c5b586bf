pub mod Parts
pub mod Operation
pub mod Counts
pub mod Never
pub mod Replying

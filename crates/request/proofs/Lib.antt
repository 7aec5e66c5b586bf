pub mod Stages
pub mod Examples

pub mod Tests
pub mod Changes
pub mod Fitting
pub mod Read
pub mod Bytes
pub mod Enough
pub mod Never
pub mod Suffices

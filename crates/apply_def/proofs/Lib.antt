pub mod Rows
pub mod Table
pub mod Adds
pub mod Refusals
pub mod Examples
pub mod Buffers
pub mod Chunks
pub mod Whys

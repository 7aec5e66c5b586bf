pub mod Buffers
pub mod Storing
pub mod Store

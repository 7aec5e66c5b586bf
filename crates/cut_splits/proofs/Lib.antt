pub mod Shares
pub mod Bytes

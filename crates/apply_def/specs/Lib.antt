pub mod Apply
pub mod Lent
pub mod Buffers

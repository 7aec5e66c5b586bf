pub mod Compared
pub mod Drops
pub mod Lines
pub mod Examples
pub mod Among
pub mod Zipped

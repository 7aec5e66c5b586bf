pub mod Walk
pub mod Compared

pub mod Compared
pub mod Drops
pub mod Lent

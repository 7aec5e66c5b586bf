pub mod Rows
pub mod Orders
pub mod Stays
pub mod Inserts
pub mod Placings
pub mod Merges
pub mod Pairs
pub mod Whole

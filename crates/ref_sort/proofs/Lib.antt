pub mod Order
pub mod Unique
pub mod Sorts
pub mod Filling
pub mod Merging

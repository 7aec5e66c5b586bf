pub mod Sectors
pub mod Starting
pub mod Passed
pub mod Operating

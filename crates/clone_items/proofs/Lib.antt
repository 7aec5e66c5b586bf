pub mod Items
pub mod Mappings
pub mod Fits
pub mod Examples

pub mod Laws
pub mod Halves
pub mod Examples
pub mod Windows
pub mod Samples
pub mod Reading
pub mod Arrays

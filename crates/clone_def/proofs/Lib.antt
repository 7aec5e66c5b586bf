pub mod Examples
pub mod Planned
pub mod Laws
pub mod References
pub mod Shown
pub mod Fits

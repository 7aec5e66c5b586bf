pub mod Order
pub mod Times
pub mod Nearest
pub mod Walk
pub mod Turns
pub mod Laws
pub mod Ways

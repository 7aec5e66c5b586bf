pub mod Plans
pub mod Places
pub mod Outputs
pub mod ReadBack

pub mod Outcomes
pub mod Raw

pub mod Whole
pub mod Raw

pub mod Raw
pub mod Sides

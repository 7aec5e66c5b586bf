pub mod Raw
pub mod Passing

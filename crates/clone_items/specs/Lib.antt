pub mod Copies
pub mod Replacing
pub mod Raw

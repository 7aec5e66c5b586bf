pub mod Rows
pub mod Windows
pub mod Raw
pub mod Reading

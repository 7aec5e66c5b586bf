pub mod Segments
pub mod Remade
pub mod Making

pub mod Buffer
pub mod Cutting
pub mod Halves
pub mod Segments
pub mod Touching
pub mod Inserting
pub mod Spans

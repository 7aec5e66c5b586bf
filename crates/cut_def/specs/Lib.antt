pub mod Cuts
pub mod Mappings
pub mod Pieces
pub mod Joins
pub mod Edits
pub mod Refs
pub mod Raw

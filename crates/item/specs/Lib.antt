pub mod Items
pub mod Kinds
pub mod Raw
pub mod Reading

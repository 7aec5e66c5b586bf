pub mod Dropped
pub mod Lent
pub mod Raw

pub mod Raw
pub mod Lent

pub mod Words
pub mod Decimal
pub mod Parts
pub mod Fields
pub mod Raw

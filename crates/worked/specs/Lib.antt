pub mod Ground
pub mod Table

pub mod Operating
pub mod Passing
pub mod Finishing

pub mod Sweep
pub mod Sums
pub mod Asking
pub mod Operating

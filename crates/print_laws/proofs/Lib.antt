pub mod Back
pub mod Operations
pub mod Examples

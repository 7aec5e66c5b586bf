pub mod Laws
pub mod Loops
pub mod Filtered
pub mod Again
pub mod Edits
pub mod Arrays

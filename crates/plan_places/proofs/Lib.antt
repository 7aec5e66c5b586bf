pub mod Laws
pub mod Clear

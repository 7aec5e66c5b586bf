pub mod Clone

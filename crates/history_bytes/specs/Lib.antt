pub mod StoredState
pub mod Called

pub mod Lists
pub mod Raw

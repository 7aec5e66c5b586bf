pub mod Forms
pub mod Raw

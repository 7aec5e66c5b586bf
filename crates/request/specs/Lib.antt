pub mod Lent
pub mod Answers
pub mod Raw
pub mod Call
pub mod Given

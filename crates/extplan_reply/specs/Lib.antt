pub mod Raw
pub mod Replies

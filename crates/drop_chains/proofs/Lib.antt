pub mod Walks
pub mod Reading
pub mod Links
pub mod Examples

pub mod Table
pub mod Behind
pub mod Sound
pub mod Examples

pub mod Placed
pub mod Laid
pub mod Cut

pub mod Pieced
pub mod Merge

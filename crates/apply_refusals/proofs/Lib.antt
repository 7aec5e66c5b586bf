pub mod Lent
pub mod Results

pub mod Fallocate

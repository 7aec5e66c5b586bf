pub mod Laying
pub mod Outputs

pub mod Lent
pub mod Records
pub mod Stages
pub mod Select
pub mod Refusals
pub mod Raw

pub mod Parts
pub mod Decimal
pub mod Laws
pub mod Bounds
pub mod NumberExamples
pub mod FieldExamples
pub mod PutExamples

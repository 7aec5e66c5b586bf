pub mod Order
pub mod Taking
pub mod Run
pub mod Few
pub mod Numbers

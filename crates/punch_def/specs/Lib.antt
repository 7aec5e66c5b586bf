pub mod Punch

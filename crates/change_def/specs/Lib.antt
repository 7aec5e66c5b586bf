pub mod Rounding
pub mod Preallocs
pub mod Rewrites
pub mod Changes
pub mod Raw
pub mod Sweep
pub mod Drafts

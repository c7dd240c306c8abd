pub mod Compact
pub mod Unique
pub mod Trace
pub mod Rebuild
pub mod Past

pub mod Taken
pub mod Decided

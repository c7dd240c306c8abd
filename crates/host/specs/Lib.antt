pub mod Host
pub mod Resumed
pub mod Few

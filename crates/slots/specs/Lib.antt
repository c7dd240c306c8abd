pub mod Layout
pub mod Records
pub mod Bare
pub mod Put

pub mod Runs
pub mod Slots
pub mod Cuts
pub mod Puts

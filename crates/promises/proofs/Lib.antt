pub mod Calls
pub mod Refused
pub mod Writes
pub mod Trace
pub mod Loader
pub mod Free
pub mod Looks
pub mod Exports

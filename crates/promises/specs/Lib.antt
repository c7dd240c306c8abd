pub mod Pools
pub mod Changes
pub mod Looks

pub mod Post
pub mod Parts
pub mod Runs

pub mod Splices
pub mod Post
pub mod Forked

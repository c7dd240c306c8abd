pub mod Lift
pub mod Post
pub mod Halved

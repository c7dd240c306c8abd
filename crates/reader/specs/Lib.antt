pub mod Check
pub mod Fill
pub mod Post

pub mod Landing
pub mod Post

pub mod Found
pub mod Post

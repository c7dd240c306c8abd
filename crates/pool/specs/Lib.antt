pub mod Pool
pub mod Lent
pub mod Free
pub mod Rule
pub mod Post
pub mod Fields
pub mod Whole

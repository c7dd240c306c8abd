pub mod Due
pub mod Walks
pub mod Whole

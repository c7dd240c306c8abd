pub mod Sparse
pub mod Climb

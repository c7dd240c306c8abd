pub mod Sparse
pub mod Rise
pub mod Settle
pub mod Stage

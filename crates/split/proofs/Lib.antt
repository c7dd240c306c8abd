pub mod Lifts
pub mod Left
pub mod Trees
pub mod Halves
pub mod Decided

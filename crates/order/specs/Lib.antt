pub mod Built
pub mod Past

pub mod Handed
pub mod Resuming
pub mod Decided
pub mod FewTold

pub mod Reach
pub mod Bares
pub mod Moved
pub mod Gaps
pub mod Altered
pub mod Spans

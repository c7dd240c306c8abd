pub mod Splice
pub mod Altered
pub mod Spans

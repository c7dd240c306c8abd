pub mod Meets
pub mod Places
pub mod Seek
pub mod EndsOnce
pub mod Answers
pub mod Decided

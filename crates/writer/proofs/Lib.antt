pub mod Lists
pub mod Record
pub mod Flags
pub mod Totals
pub mod Rows
pub mod Whole
pub mod Answers
pub mod Decided

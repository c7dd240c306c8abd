pub mod Index
pub mod Lists
pub mod Turns

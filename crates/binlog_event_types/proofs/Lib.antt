pub mod Searched
pub mod Versions

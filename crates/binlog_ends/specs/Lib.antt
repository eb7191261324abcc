pub mod Counts
pub mod Views

pub mod Counts
pub mod Applied
pub mod Inverses
pub mod Tables
pub mod Parts

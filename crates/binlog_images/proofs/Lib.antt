mod NullWords
pub mod Agreement
pub mod AlikeBits
pub mod Counts
pub mod Events
pub mod NullBits
pub mod Placing
pub mod Reading
pub mod Splits
pub mod Steps
pub mod Stored
pub mod Taking
pub mod Visited

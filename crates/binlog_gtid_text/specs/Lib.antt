pub mod Faults
pub mod Reading
pub mod Pieces
pub mod Printing
pub mod Spellings
pub mod Laws

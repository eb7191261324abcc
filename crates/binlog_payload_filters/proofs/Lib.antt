pub mod TakenContent
pub mod Decided
pub mod ShownEvents
pub mod ShownItems
pub mod FilteredCopies

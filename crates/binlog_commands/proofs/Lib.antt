pub mod FilteredCopies
pub mod TakenCounts
pub mod CollectedGtids
pub mod WholeCounts
pub mod Wholes
mod SplicedTypes

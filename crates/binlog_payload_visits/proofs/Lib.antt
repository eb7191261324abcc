pub mod PartMaps
pub mod PartLists
pub mod VisitedParts
pub mod Splicing
pub mod NotedItems
pub mod Counted

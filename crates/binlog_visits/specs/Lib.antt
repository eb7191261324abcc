pub mod Places
pub mod TableMaps
pub mod KnownCounts
pub mod Visits
pub mod LineVisits
pub mod Lines
pub mod SliceLines

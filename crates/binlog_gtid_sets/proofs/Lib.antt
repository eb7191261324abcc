pub mod GtidGroups
pub mod AddedGtids
pub mod GtidDifferences
pub mod FirstBadGnos

pub mod AddedGtids
pub mod GtidGroups
pub mod FirstBadGnos

pub mod LastGtids
pub mod LastEntries
pub mod AddedGtids
pub mod GtidSets
pub mod GtidReading
pub mod GtidTexts

pub mod LastGtids
pub mod LastEntries
pub mod GtidOrder
pub mod GtidParts
pub mod GtidGrammar

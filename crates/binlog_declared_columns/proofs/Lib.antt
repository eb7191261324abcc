pub mod Members
pub mod SignFields
pub mod NotedColumns
pub mod FirstUnfit
pub mod TableFiles
pub mod BothFacts
pub mod KnownFacts

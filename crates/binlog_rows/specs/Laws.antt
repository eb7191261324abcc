-- Laws of the definitions of this crate, by topic.
pub mod Columns
pub mod ExtraBytes
pub mod ReadNormal
pub mod ReadRows
pub mod ReadTableMaps
pub mod RowsWriting
pub mod TableMapRefusals
pub mod Writable

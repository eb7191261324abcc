pub mod RowCounts
pub mod CompressedRows
pub mod Found
pub mod ItemFacts
pub mod SplicedFacts
pub mod Counting
pub mod TransactionGtids

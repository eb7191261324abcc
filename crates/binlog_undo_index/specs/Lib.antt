pub mod Positions
pub mod Skips
pub mod Groups
pub mod Parts
pub mod Index
pub mod RowTransactions

pub mod Keeping
pub mod RowTransactions

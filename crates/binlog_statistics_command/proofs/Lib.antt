pub mod WrittenRows
pub mod RepeatedTables
pub mod CountedTransactions
pub mod WithinTransactions
